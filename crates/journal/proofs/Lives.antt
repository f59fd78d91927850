-- One event more of a survey's life.
use Rattle.std.proofs.Common.{◌≡◌, ℕ, ◌+◌, ◌<◌, Bool, true, List, [], ◌∷◌, ◌++◌, length, get_or, take, sym, refl, subst}
use Rattle.std.proofs.lemmas.List.{take_more}
use Rattle.journal.specs.declared.event.Answer.{Answer}
use Rattle.journal.specs.declared.event.Event.{Event}
use Rattle.journal.specs.Worlds.{World, fits, Stepped, Life}

module _ (n : ℕ) (leads : ℕ → ℕ → Bool) (m : ℕ) (after : ℕ → ℕ → Bool) where
  life_last : (events : List Event) (w u : World) (event : Event) (a : Answer) (v : World) → Life n leads m after w events u → fits u.worked event ≡ true → Stepped n leads m after u event a v → Life n leads m after w (events ++ event ∷ []) v
  life_last [] w u event a v e fit s =
      (a, v, subst (λ (x : World). fits x.worked event ≡ true) e fit, subst (λ (x : World). Stepped n leads m after x event a v) e s, refl)
  life_last (first ∷ events) w u event a v (b, x, f, t, rest) fit s = (b, x, f, t, life_last events x u event a v rest fit s)

  pub life_more : (events : List Event) (i : ℕ) (default : Event) (w u : World) (a : Answer) (v : World) → i < length events → Life n leads m after w (take i events) u → fits u.worked (get_or events i default) ≡ true → Stepped n leads m after u (get_or events i default) a v → Life n leads m after w (take (i + 1) events) v
  life_more events i default w u a v h l fit s =
      subst (λ (es : List Event). Life n leads m after w es v) (sym (take_more events i default h)) (life_last (take i events) w u (get_or events i default) a v l fit s)
