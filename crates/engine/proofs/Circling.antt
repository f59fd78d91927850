-- Days that circle, step by step: where they go, how many there are, and that only what is below the count matters.
use Rattle.std.proofs.Common.{◌≡◌, ℕ, zero, suc, ◌+◌, ◌-◌, ◌<◌, ◌≤◌, Bool, true, false, cond, ◌||◌, eqb, List, [], ◌∷◌, ◌++◌, length, take, set, Some, None, Option, sym, refl, ap, ◌∙◌, ap₂, arith}
use Rattle.std.proofs.lemmas.List.{take_more_set, take-set, length_push, length-set}
use Rattle.std.specs.List.{list_any}
use Rattle.model.specs.Showing.{go_on, stands_in, circle}

-- whether a day stands among days, as a search through them says it
pub stands_any : (d : ℕ) (l : List ℕ) → list_any (λ e. eqb e d) l ≡ stands_in d l
stands_any d [] = refl
stands_any d (e ∷ es) = ap (λ (b : Bool). eqb e d || b) (stands_any d es)

module _ (next : ℕ → Option ℕ) (awaited : ℕ → Bool) where
  -- one day more
  at_day : (k j : ℕ) (before : List ℕ) (d : ℕ) (s a : Bool) (o : Option ℕ) → k ≡ suc j → s ≡ stands_in d before → a ≡ awaited d → o ≡ next d
      → circle next awaited k before d ≡ cond s (Some (before ++ d ∷ [])) (cond a None (go_on o (λ e. circle next awaited j (before ++ d ∷ []) e)))
  at_day k j before d s a o ek es ea eo =
      ap (λ (i : ℕ). circle next awaited i before d) ek
      ∙ ap (λ (b : Bool). cond b (Some (before ++ d ∷ [])) (cond (awaited d) None (go_on (next d) (λ e. circle next awaited j (before ++ d ∷ []) e)))) (sym es)
      ∙ ap₂ (λ (b : Bool) (p : Option ℕ). cond s (Some (before ++ d ∷ [])) (cond b None (go_on p (λ e. circle next awaited j (before ++ d ∷ []) e)))) (sym ea) (sym eo)

  pub comes_round : (k j : ℕ) (before : List ℕ) (d : ℕ) → k ≡ suc j → true ≡ stands_in d before → circle next awaited k before d ≡ Some (before ++ d ∷ [])
  comes_round k j before d ek es = at_day k j before d true (awaited d) (next d) ek es refl refl

  pub meets_awaited : (k j : ℕ) (before : List ℕ) (d : ℕ) → k ≡ suc j → false ≡ stands_in d before → true ≡ awaited d → circle next awaited k before d ≡ None
  meets_awaited k j before d ek es ea = at_day k j before d false true (next d) ek es ea refl

  pub goes_nowhere : (k j : ℕ) (before : List ℕ) (d : ℕ) → k ≡ suc j → false ≡ stands_in d before → false ≡ awaited d → None ≡ next d → circle next awaited k before d ≡ None
  goes_nowhere k j before d ek es ea eo = at_day k j before d false false None ek es ea eo

  pub goes_round : (k j : ℕ) (before : List ℕ) (d e : ℕ) → k ≡ suc j → false ≡ stands_in d before → false ≡ awaited d → Some e ≡ next d → circle next awaited k before d ≡ circle next awaited j (before ++ d ∷ []) e
  goes_round k j before d e ek es ea eo = at_day k j before d false false (Some e) ek es ea eo

  -- there are at most so many days
  pub circle_fits : (k : ℕ) (before : List ℕ) (d : ℕ) (l : List ℕ) → circle next awaited k before d ≡ Some l → length l ≤ length before + k
  circle_fits zero before d l e = absurd (let z : ◌≡◌ {A = ℕ} 0 1 = cc in omega arith)
  circle_fits (suc k) before d l e = go (λ f. circle_fits k (before ++ d ∷ []) f l) (stands_in d before) (awaited d) (next d) refl refl refl
    where
      go : ((f : ℕ) → circle next awaited k (before ++ d ∷ []) f ≡ Some l → length l ≤ length (before ++ d ∷ []) + k)
          → (s a : Bool) (o : Option ℕ) → s ≡ stands_in d before → a ≡ awaited d → o ≡ next d → length l ≤ length before + suc k
      go rest true a o es ea eo =
          let f : before ++ d ∷ [] ≡ l = let g = comes_round (suc k) k before d refl es in cc in
          let n = length_push before d in let g = ap length f in omega arith
      go rest false true o es ea eo = let g = meets_awaited (suc k) k before d refl es ea in absurd (let z : ◌≡◌ {A = ℕ} 0 1 = cc in omega arith)
      go rest false false None es ea eo = let g = goes_nowhere (suc k) k before d refl es ea eo in absurd (let z : ◌≡◌ {A = ℕ} 0 1 = cc in omega arith)
      go rest false false (Some f) es ea eo =
          let n = length_push before d in
          let g = rest f (sym (goes_round (suc k) k before d f refl es ea eo) ∙ e) in omega arith

-- the first i days from `start` on are gone through, and d is the next
pub record Going (m : ℕ) (next : ℕ → Option ℕ) (awaited : ℕ → Bool) (start i : ℕ) (days : List ℕ) (d : ℕ) : Type 0 where
  pub below : d < m
  pub held : length days ≡ 65
  pub same : circle next awaited (suc m) [] start ≡ circle next awaited (suc m - i) (take i days) d

pub going_none : (m : ℕ) (next : ℕ → Option ℕ) (awaited : ℕ → Bool) (start : ℕ) (days : List ℕ) → start < m → length days ≡ 65 → Going m next awaited start 0 days start
going_none m next awaited start days h l =
    let all : suc m ≡ suc m - 0 = omega arith in
    record { below = h; held = l; same = ap (λ (k : ℕ). circle next awaited k [] start) all }

module _ (m : ℕ) (next : ℕ → Option ℕ) (awaited : ℕ → Bool) (start i : ℕ) (days : List ℕ) (d : ℕ) (few : i < 65) (left : i < suc m) (g : Going m next awaited start i days d) where
  one_less : suc m - i ≡ suc (suc m - (i + 1))
  one_less = omega arith

  not_yet : (s : Bool) → s ≡ stands_in d (take i (set days i d)) → s ≡ stands_in d (take i days)
  not_yet s e = e ∙ ap (stands_in d) (take-set days i d)

  put_down : take (i + 1) (set days i d) ≡ take i days ++ d ∷ []
  put_down = take_more_set days i d (omega (arith, g.held))

  pub going_round : true ≡ stands_in d (take i (set days i d)) → Some (take (i + 1) (set days i d)) ≡ circle next awaited (suc m) [] start
  going_round s = ap Some put_down ∙ sym (g.same ∙ comes_round next awaited (suc m - i) (suc m - (i + 1)) (take i days) d one_less (not_yet true s))

  pub going_awaited : false ≡ stands_in d (take i (set days i d)) → true ≡ awaited d → None ≡ circle next awaited (suc m) [] start
  going_awaited s a = sym (g.same ∙ meets_awaited next awaited (suc m - i) (suc m - (i + 1)) (take i days) d one_less (not_yet false s) a)

  pub going_nowhere : false ≡ stands_in d (take i (set days i d)) → false ≡ awaited d → None ≡ next d → None ≡ circle next awaited (suc m) [] start
  going_nowhere s a o = sym (g.same ∙ goes_nowhere next awaited (suc m - i) (suc m - (i + 1)) (take i days) d one_less (not_yet false s) a o)

  pub going_on : (e : ℕ) → false ≡ stands_in d (take i (set days i d)) → false ≡ awaited d → Some e ≡ next d → e < m → Going m next awaited start (i + 1) (set days i d) e
  going_on e s a o h = record {
    below = h;
    held = length-set days i d ∙ g.held;
    same = g.same ∙ goes_round next awaited (suc m - i) (suc m - (i + 1)) (take i days) d e one_less (not_yet false s) a o
        ∙ ap (λ (l : List ℕ). circle next awaited (suc m - (i + 1)) l e) (sym put_down);
  }

-- as many days as there can be, and none repeated
pub going_over : (m : ℕ) (next : ℕ → Option ℕ) (awaited : ℕ → Bool) (start i : ℕ) (days : List ℕ) (d : ℕ) → suc m ≤ i → Going m next awaited start i days d → None ≡ circle next awaited (suc m) [] start
going_over m next awaited start i days d over g =
    let none : suc m - i ≡ 0 = omega arith in
    sym (g.same ∙ ap (λ (k : ℕ). circle next awaited k (take i days) d) none)

-- the days by other names for the next and the awaited days below m
module _ (m : ℕ) (next next' : ℕ → Option ℕ) (awaited awaited' : ℕ → Bool)
    (nexts : (d : ℕ) → d < m → next d ≡ next' d) (inside : (d e : ℕ) → next d ≡ Some e → e < m) (awaits : (d : ℕ) → d < m → awaited d ≡ awaited' d) where
  pub circle_same : (k : ℕ) (before : List ℕ) (d : ℕ) → d < m → circle next awaited k before d ≡ circle next' awaited' k before d
  circle_same zero before d h = refl
  circle_same (suc k) before d h =
      ap₂ (λ (b : Bool) (p : Option (List ℕ)). cond (stands_in d before) (Some (before ++ d ∷ [])) (cond b None p)) (awaits d h)
      (go (λ e. circle_same k (before ++ d ∷ []) e) (next d) refl)
    where
      go : ((e : ℕ) → e < m → circle next awaited k (before ++ d ∷ []) e ≡ circle next' awaited' k (before ++ d ∷ []) e)
          → (o : Option ℕ) → next d ≡ o → go_on (next d) (λ e. circle next awaited k (before ++ d ∷ []) e) ≡ go_on (next' d) (λ e. circle next' awaited' k (before ++ d ∷ []) e)
      go rest None e = ap (λ (o : Option ℕ). go_on o (λ e. circle next awaited k (before ++ d ∷ []) e)) e ∙ ap (λ (o : Option ℕ). go_on o (λ e. circle next' awaited' k (before ++ d ∷ []) e)) (sym e ∙ nexts d h)
      go rest (Some f) e = ap (λ (o : Option ℕ). go_on o (λ e. circle next awaited k (before ++ d ∷ []) e)) e ∙ rest f (inside d f e) ∙ ap (λ (o : Option ℕ). go_on o (λ e. circle next' awaited' k (before ++ d ∷ []) e)) (sym e ∙ nexts d h)
