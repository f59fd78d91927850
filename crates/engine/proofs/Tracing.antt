-- A trace step by step: where it goes, how long it is, and that only words, steps and goals below the count matter.
use Rattle.std.proofs.Common.{IfSome, ◌≡◌, ℕ, zero, suc, ◌+◌, ◌-◌, ◌<◌, Bool, true, false, cond, ◌&&◌, eqb, List, [], ◌∷◌, ◌++◌, length, take, drop, set, is_some, Some, None, Option, unwrap_or, sym, refl, ap, ◌∙◌, subst, ap₂, ⊎_elim, arith}
use Rattle.std.proofs.lemmas.List.{append_assoc, take-append-drop, take_more_set, drop-set-lt, drop_more}
use Rattle.std.proofs.lemmas.Bool.{and_left, both_ways, cases_Bool}
use denote.Param.Members.{Mut}
use denote.Ref.{Bor}
use Rattle.std.specs.Fn.{CalledAt}
use Rattle.std.specs.Iterator.{YieldsThen}
use Rattle.std.specs.List.{FoldsTo}
use Rattle.std.specs.Option.{option_map}
use Rattle.model.specs.Numbers.{least, Least}
use Rattle.model.specs.Showing.{go_on, trace, written_on}
use Rattle.model.specs.Table.{word}
use Rattle.model.proofs.Levels.{least_found, least_is, least_is_none}
use Rattle.model.proofs.Solution.{least_same}
use Rattle.model.specs.Relations.{MovesOn}
use Rattle.model.proofs.GoingThrough.{find_on}
use Rattle.engine.specs.Exploring.{step_by}

-- the least number that passes, as a function says it
least_of : (n : ℕ) (test : ℕ → Bool) (r : Option ℕ) → Least test 0 n r → r ≡ least n test
least_of n test None none = sym (least_is_none n test (λ z h. none z (omega arith) h))
least_of n test (Some y) here = sym (least_is n test y (record { below = here.1; passes = here.2; first = λ z h. here.3 z (omega arith) h }))

-- what `find` answers over a row of n numbers that is gone through from the start: the least of them that passes
pub find_met : {S F : Type 0} (points : S → ℕ) (row : S → ℕ → Bool) (from : S → ℕ) {g : Mut F (Bor ℕ × Unit {0}) Bool} {f : F} {s : S} {r : Option ℕ} (u : S) (n : ℕ) (w test : ℕ → Bool)
    → from s ≡ 0 → points s ≡ n → row s ≡ w
    → (xs : List ℕ) × (j : F) × YieldsThen (MovesOn points row from) s xs r u × FoldsTo (λ p x q. CalledAt g p x false q) f xs j × IfSome r (λ x. (h : F) × CalledAt g j x true h)
    → ((x : ℕ) (q : F) → CalledAt g f x true q → test x ≡ true) → ((x : ℕ) (q : F) → CalledAt g f x false q → (q ≡ f) × (test x ≡ false))
    → r ≡ least n (λ k. w k && test k)
find_met points row from {g} {f} {s} {r} u n w test z e h ran passes fails =
    least_of _ _ r (find_on points row from g test f s u r z ran passes fails) ∙ ap₂ (λ m v. least m (λ k. v k && test k)) e h

-- a step where x may be left, and none where it may not
same_test : (a b c d : Bool) → a ≡ true → (b && (c && d)) ≡ ((a && (b && c)) && d)
same_test true true c d e = refl
same_test true false c d e = refl
same_test false b c d e = absurd (both_ways false refl e)

module _ (n : ℕ) (leave enter : ℕ → Bool) (leads : ℕ → ℕ → Bool) (own : ℕ → ℕ) (x w : ℕ) where
  pub as_steps : leave x ≡ true → least n (λ z. leads x z && (enter z && eqb (own z) w)) ≡ least n (λ z. step_by leave leads enter x z && eqb (own z) w)
  as_steps l = least_same n _ _ (λ z h. same_test (leave x) (leads x z) (enter z) (eqb (own z) w) l)

  pub stays : leave x ≡ false → None ≡ least n (λ z. step_by leave leads enter x z && eqb (own z) w)
  stays f = sym (least_is_none n (λ z. step_by leave leads enter x z && eqb (own z) w) (λ z h. and_left (step_by leave leads enter x z) _ (and_left (leave x) _ f)))

-- a list in an option, with one number more before it
some_mapped : {A B : Type 0} (f : A → B) (o : Option A) → is_some (option_map f o) ≡ is_some o
some_mapped f None = refl
some_mapped f (Some a) = refl

value_more : (x : ℕ) (o : Option (List ℕ)) → is_some o ≡ true → unwrap_or (option_map (λ rest. x ∷ rest) o) [] ≡ x ∷ unwrap_or o []
value_more x None some = absurd (both_ways false refl some)
value_more x (Some l) some = refl

module _ (n : ℕ) (step : ℕ → ℕ → Bool) (goal : ℕ → Bool) (own : ℕ → ℕ) (answer : Bool) where
  -- what one step makes of a trace
  at_step : (k j x w : ℕ) (o : Option ℕ) → k ≡ suc j → w ≡ word answer j → o ≡ least n (λ y. step x y && eqb (own y) w)
      → trace n step goal own answer k x ≡ option_map (λ rest. x ∷ rest) (go_on o (λ y. trace n step goal own answer j y))
  at_step k j x w o ek ew eo =
      ap (λ (i : ℕ). trace n step goal own answer i x) ek
      ∙ ap (λ (v : ℕ). option_map (λ rest. x ∷ rest) (go_on (least n (λ y. step x y && eqb (own y) v)) (λ y. trace n step goal own answer j y))) (sym ew)
      ∙ ap (λ (p : Option ℕ). option_map (λ rest. x ∷ rest) (go_on p (λ y. trace n step goal own answer j y))) (sym eo)

  pub holds_on : (k j x y w : ℕ) → k ≡ suc j → w ≡ word answer j → Some y ≡ least n (λ z. step x z && eqb (own z) w)
      → is_some (trace n step goal own answer k x) ≡ is_some (trace n step goal own answer j y)
  holds_on k j x y w ek ew eo = ap is_some (at_step k j x w (Some y) ek ew eo) ∙ some_mapped _ (trace n step goal own answer j y)

  pub breaks_off : (k j x w : ℕ) → k ≡ suc j → w ≡ word answer j → None ≡ least n (λ z. step x z && eqb (own z) w)
      → is_some (trace n step goal own answer k x) ≡ false
  breaks_off k j x w ek ew eo = ap is_some (at_step k j x w None ek ew eo)

  pub ends : (x : ℕ) → is_some (trace n step goal own answer 0 x) ≡ goal x
  ends x = ⊎_elim (λ (t : goal x ≡ true). rw t refl) (λ (f : goal x ≡ false). rw f refl) (cases_Bool (goal x))

  pub goes_by : (k j x y w : ℕ) → k ≡ suc j → w ≡ word answer j → Some y ≡ least n (λ z. step x z && eqb (own z) w)
      → is_some (trace n step goal own answer k x) ≡ true → unwrap_or (trace n step goal own answer k x) [] ≡ x ∷ unwrap_or (trace n step goal own answer j y) []
  goes_by k j x y w ek ew eo some =
      ap (λ (o : Option (List ℕ)). unwrap_or o []) (at_step k j x w (Some y) ek ew eo) ∙ value_more x (trace n step goal own answer j y) (sym (holds_on k j x y w ek ew eo) ∙ some)

  pub last_one : (x : ℕ) → is_some (trace n step goal own answer 0 x) ≡ true → unwrap_or (trace n step goal own answer 0 x) [] ≡ x ∷ []
  last_one x some = let t = sym (ends x) ∙ some in rw t refl

  -- a trace of k steps has k + 1 points
  pub trace_counts : (k x : ℕ) → is_some (trace n step goal own answer k x) ≡ true → option_map length (trace n step goal own answer k x) ≡ Some (k + 1)
  trace_counts zero x some = let t = sym (ends x) ∙ some in rw t refl
  trace_counts (suc k) x some = go (λ y. trace_counts k y) (least n (λ y. step x y && eqb (own y) (word answer k))) refl
    where
      longer : (o : Option (List ℕ)) → option_map length o ≡ Some (k + 1) → option_map length (option_map (λ rest. x ∷ rest) o) ≡ Some (suc k + 1)
      longer None e = absurd (let z : ◌≡◌ {A = ℕ} 0 1 = cc in omega arith)
      longer (Some l) e = let f : length l ≡ k + 1 = cc in ap Some (let g : suc (length l) ≡ suc k + 1 = omega arith in g)

      go : ((y : ℕ) → is_some (trace n step goal own answer k y) ≡ true → option_map length (trace n step goal own answer k y) ≡ Some (k + 1))
          → (o : Option ℕ) → o ≡ least n (λ y. step x y && eqb (own y) (word answer k)) → option_map length (trace n step goal own answer (suc k) x) ≡ Some (suc k + 1)
      go rest None e = absurd (both_ways _ (breaks_off (suc k) k x (word answer k) refl refl e) some)
      go rest (Some y) e =
          ap (option_map length) (at_step (suc k) k x (word answer k) (Some y) refl refl e)
          ∙ longer (trace n step goal own answer k y) (rest y (sym (holds_on (suc k) k x y (word answer k) refl refl e) ∙ some))

-- one number more is written: the strip's front has it, and the others are still to come
pub write_more : (strip : List ℕ) (i x : ℕ) (rest : List ℕ) → i < length strip → take i strip ++ written_on (x ∷ rest) (drop i strip) ≡ take (i + 1) (set strip i x) ++ written_on rest (drop (i + 1) (set strip i x))
write_more strip i x rest h =
    let front = take_more_set strip i x h in
    let back = drop-set-lt (i + 1) strip i x (omega arith) in
    let here = drop_more strip i 0 h in
    ap (λ (l : List ℕ). take i strip ++ written_on (x ∷ rest) l) here
    ∙ sym (append_assoc (take i strip) (x ∷ []) (written_on rest (drop (i + 1) strip)))
    ∙ ap₂ (λ (a b : List ℕ). a ++ written_on rest b) (sym front) (sym back)

-- nothing more is to come
pub write_all : (strip : List ℕ) (i : ℕ) → take i strip ++ written_on [] (drop i strip) ≡ strip
write_all strip i = take-append-drop i strip

-- the first i numbers of a trace are written, and the rest, by k steps from x, is still to come
pub record ToCome (n : ℕ) (step : ℕ → ℕ → Bool) (goal : ℕ → Bool) (own : ℕ → ℕ) (answer : Bool) (k x i : ℕ) (whole strip : List ℕ) : Type 0 where
  pub below : x < n
  pub found : is_some (trace n step goal own answer k x) ≡ true
  pub whole_is : whole ≡ take i strip ++ written_on (unwrap_or (trace n step goal own answer k x) []) (drop i strip)

module _ (n : ℕ) (step : ℕ → ℕ → Bool) (goal : ℕ → Bool) (own : ℕ → ℕ) (answer : Bool) where
  pub to_come_all : (k x : ℕ) (strip : List ℕ) → x < n → is_some (trace n step goal own answer k x) ≡ true → ToCome n step goal own answer (k - 0) x 0 (written_on (unwrap_or (trace n step goal own answer k x) []) strip) strip
  to_come_all k x strip h some =
      let e : k ≡ k - 0 = omega arith in
      record {
        below = h;
        found = subst (λ (j : ℕ). is_some (trace n step goal own answer j x) ≡ true) e some;
        whole_is = ap (λ (j : ℕ). written_on (unwrap_or (trace n step goal own answer j x) []) strip) e;
      }

  pub to_come_less : (k j x y w i : ℕ) (whole strip : List ℕ) → k ≡ suc j → w ≡ word answer j → Some y ≡ least n (λ z. step x z && eqb (own z) w)
      → i < length strip → ToCome n step goal own answer k x i whole strip → ToCome n step goal own answer j y (i + 1) whole (set strip i x)
  to_come_less k j x y w i whole strip ek ew eo held t = record {
    below = (least_found n (λ z. step x z && eqb (own z) w) y (sym eo)).below;
    found = sym (holds_on n step goal own answer k j x y w ek ew eo) ∙ t.found;
    whole_is = t.whole_is
        ∙ ap (λ (l : List ℕ). take i strip ++ written_on l (drop i strip)) (goes_by n step goal own answer k j x y w ek ew eo t.found)
        ∙ write_more strip i x (unwrap_or (trace n step goal own answer j y) []) held;
  }

  pub to_come_last : (k x i : ℕ) (whole strip : List ℕ) → k ≡ 0 → i < length strip → ToCome n step goal own answer k x i whole strip → set strip i x ≡ whole
  to_come_last k x i whole strip e held t =
      let some = subst (λ (j : ℕ). is_some (trace n step goal own answer j x) ≡ true) e t.found in
      sym (t.whole_is
      ∙ ap (λ (j : ℕ). take i strip ++ written_on (unwrap_or (trace n step goal own answer j x) []) (drop i strip)) e
      ∙ ap (λ (l : List ℕ). take i strip ++ written_on l (drop i strip)) (last_one n step goal own answer x some)
      ∙ write_more strip i x [] held ∙ write_all (set strip i x) (i + 1))

-- a trace by other names for the words, steps and goals below the count
module _ (n : ℕ) (step step' : ℕ → ℕ → Bool) (goal goal' : ℕ → Bool) (own own' : ℕ → ℕ) (answer : Bool)
    (steps : (x y : ℕ) → x < n → y < n → step x y ≡ step' x y) (goals : (x : ℕ) → x < n → goal x ≡ goal' x) (owns : (x : ℕ) → x < n → own x ≡ own' x) where
  pub trace_same : (k x : ℕ) → x < n → trace n step goal own answer k x ≡ trace n step' goal' own' answer k x
  trace_same zero x h = ap (λ (b : Bool). cond b (Some (x ∷ [])) None) (goals x h)
  trace_same (suc k) x h = go (λ y. trace_same k y) (least n (λ y. step x y && eqb (own y) (word answer k))) refl
    where
      same : least n (λ y. step x y && eqb (own y) (word answer k)) ≡ least n (λ y. step' x y && eqb (own' y) (word answer k))
      same = least_same n _ _ (λ y l. ap₂ (λ (a : Bool) (b : ℕ). a && eqb b (word answer k)) (steps x y h l) (owns y l))

      go : ((y : ℕ) → y < n → trace n step goal own answer k y ≡ trace n step' goal' own' answer k y)
          → (o : Option ℕ) → o ≡ least n (λ y. step x y && eqb (own y) (word answer k)) → trace n step goal own answer (suc k) x ≡ trace n step' goal' own' answer (suc k) x
      go rest None e = at_step n step goal own answer (suc k) k x (word answer k) None refl refl e ∙ sym (at_step n step' goal' own' answer (suc k) k x (word answer k) None refl refl (e ∙ same))
      go rest (Some y) e =
          at_step n step goal own answer (suc k) k x (word answer k) (Some y) refl refl e
          ∙ ap (option_map (λ rest. x ∷ rest)) (rest y (least_found n (λ z. step x z && eqb (own z) (word answer k)) y (sym e)).below)
          ∙ sym (at_step n step' goal' own' answer (suc k) k x (word answer k) (Some y) refl refl (e ∙ same))
