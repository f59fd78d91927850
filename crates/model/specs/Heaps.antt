-- Seven small heaps and the words of their entries, worked out by hand. W is atom 0, D is atom 1.
use Rattle.std.specs.Prelude.{◌≡◌, ℕ, Bool, List, [], ◌∷◌, map}
use Rattle.std.specs.List.{range_with_len}
use Rattle.model.specs.declared.line.Line.{Line}
use Rattle.model.specs.Books.{model_of}
use Rattle.model.specs.Chains.{chained}
use Rattle.model.specs.Grids.{beside}
use Rattle.model.specs.Links.{listed}
use Rattle.model.specs.Logic.{Model}
use Rattle.model.specs.Table.{table}

-- a line: kind letter, left, right
abbrev line : ℕ → ℕ → ℕ → Line
line kind left right = record { kind = kind; left = left; right = right }

-- the words of a line on day 0, by point, and at point 0, by day
abbrev pub by_point : Model → List Line → ℕ → List ℕ
by_point M lines i = map (λ x. table M lines i 0 x) (range_with_len 0 M.points)

abbrev pub by_day : Model → List Line → ℕ → List ℕ
by_day M lines i = map (λ d. table M lines i d 0) (range_with_len 0 M.days)

-- one day on a floor, with a reading word for each point; and one point on a calendar, with a reading word for each day
abbrev on_floor : ℕ → (ℕ → ℕ → Bool) → List ℕ → Model
on_floor points leads readings = model_of points leads 1 (chained 1) readings

abbrev on_calendar : ℕ → List ℕ → List ℕ → Model
on_calendar days pairs readings = model_of 1 (beside 1 1) days (listed pairs) readings

-- P of W, P of D, S of both, N of W
abbrev pub floor_lines : List Line
floor_lines = line 80 0 0 ∷ line 80 1 0 ∷ line 83 0 1 ∷ line 78 0 0 ∷ []

-- T, P of W, U of both, F of W, X of W
abbrev pub calendar_lines : List Line
calendar_lines = line 84 0 0 ∷ line 80 0 0 ∷ line 85 0 1 ∷ line 70 1 0 ∷ line 88 1 0 ∷ []

-- a grid of 1 × 5, W at 1 2 3, D at 0 4; the same with D at 0 only; a grid of 1 × 3, W at 0 1, D at 1
abbrev pub heap_1 : Model
heap_1 = on_floor 5 (beside 1 5) (2 ∷ 1 ∷ 1 ∷ 1 ∷ 2 ∷ [])

abbrev pub heap_2 : Model
heap_2 = on_floor 5 (beside 1 5) (2 ∷ 1 ∷ 1 ∷ 1 ∷ 0 ∷ [])

abbrev pub heap_3 : Model
heap_3 = on_floor 3 (beside 1 3) (1 ∷ 3 ∷ 0 ∷ [])

-- links 0→1, 1→2, and links 1→0, 2→1; W at 0 1
abbrev pub heap_4 : Model
heap_4 = on_floor 3 (listed (0 ∷ 1 ∷ 1 ∷ 2 ∷ [])) (1 ∷ 1 ∷ 0 ∷ [])

abbrev pub heap_5 : Model
heap_5 = on_floor 3 (listed (1 ∷ 0 ∷ 2 ∷ 1 ∷ [])) (1 ∷ 1 ∷ 0 ∷ [])

-- days 0→1, 0→2, 1→1, 2→2, W on 1; days 0→1, 0→2, 1→2, 2→2, W on 2
abbrev pub heap_6 : Model
heap_6 = on_calendar 3 (0 ∷ 1 ∷ 0 ∷ 2 ∷ 1 ∷ 1 ∷ 2 ∷ 2 ∷ []) (0 ∷ 1 ∷ 0 ∷ [])

abbrev pub heap_7 : Model
heap_7 = on_calendar 3 (0 ∷ 1 ∷ 0 ∷ 2 ∷ 1 ∷ 2 ∷ 2 ∷ 2 ∷ []) (0 ∷ 0 ∷ 1 ∷ [])

-- their words
pub record SmallHeaps : Type 0 where
  pub surrounded_1 : by_point heap_1 floor_lines 2 ≡ 0 ∷ 1 ∷ 1 ∷ 1 ∷ 0 ∷ []
  pub surrounded_2 : by_point heap_2 floor_lines 2 ≡ 0 ∷ 6 ∷ 4 ∷ 2 ∷ 0 ∷ []
  pub surrounded_3 : by_point heap_3 floor_lines 2 ≡ 1 ∷ 2 ∷ 0 ∷ []
  pub surrounded_4 : by_point heap_4 floor_lines 2 ≡ 4 ∷ 2 ∷ 0 ∷ []
  pub near_4 : by_point heap_4 floor_lines 3 ≡ 1 ∷ 1 ∷ 3 ∷ []
  pub surrounded_5 : by_point heap_5 floor_lines 2 ≡ 1 ∷ 1 ∷ 0 ∷ []
  pub near_5 : by_point heap_5 floor_lines 3 ≡ 1 ∷ 1 ∷ 0 ∷ []
  pub until_6 : by_day heap_6 calendar_lines 2 ≡ 3 ∷ 1 ∷ 0 ∷ []
  pub future_6 : by_day heap_6 calendar_lines 3 ≡ 0 ∷ 1 ∷ 0 ∷ []
  pub next_6 : by_day heap_6 calendar_lines 4 ≡ 1 ∷ 1 ∷ 0 ∷ []
  pub until_7 : by_day heap_7 calendar_lines 2 ≡ 3 ∷ 3 ∷ 1 ∷ []
  pub future_7 : by_day heap_7 calendar_lines 3 ≡ 5 ∷ 3 ∷ 1 ∷ []
