-- The goal lists of cells: how many there are, those of the first cells, that of one cell.
use Rattle.std.proofs.Common.{◌≡◌, ℕ, zero, suc, ◌+◌, ◌-◌, ◌<◌, ◌≤◌, List, [], ◌∷◌, ◌++◌, length, take, get_or, slice_get, Some, refl, sym, ap, ◌∙◌, subst, arith, inl, inr, length-append, take-take, add-zero}
use Rattle.std.proofs.lemmas.List.{take-append-le, take_all, get_or_at}
use Rattle.std.proofs.lemmas.Option.{slice_get-get_or, same_Some}
use Rattle.mars_base.proofs.ListFacts.{get-push}
use Rattle.mars_goals.specs.declared.cells.Pending.{Pending}
use Rattle.mars_goals.specs.declared.cells.Cell.{Cell}
use Rattle.mars_goals.specs.GoalLists.{list_at}
use Rattle.mars_goals.specs.CellsInside.{lists_of_cells, AreCells}
use Rattle.mars_goals.proofs.CallerLemmas.{list_left}

abbrev next : List (List Pending) → Cell → List (List Pending)
next before cell = before ++ (cell.goal ∷ list_at before cell.rest) ∷ []

-- how many there are
pub lists-length : (before : List (List Pending)) (cells : List Cell) → length (lists_of_cells before cells) ≡ length before + length cells
lists-length before [] = omega arith
lists-length before (cell ∷ cells) =
    let e = lists-length (next before cell) cells in
    let l = length-append before ((cell.goal ∷ list_at before cell.rest) ∷ []) in
    omega arith

-- one cell more
pub lists-push : (before : List (List Pending)) (cells : List Cell) (cell : Cell)
    → lists_of_cells before (cells ++ cell ∷ []) ≡ lists_of_cells before cells ++ (cell.goal ∷ list_at (lists_of_cells before cells) cell.rest) ∷ []
lists-push before [] cell = refl
lists-push before (c ∷ cells) cell = lists-push (next before c) cells cell

-- those that there were before come first
lists-before : (before : List (List Pending)) (cells : List Cell) → take (length before) (lists_of_cells before cells) ≡ before
lists-before before [] = take_all (length before) before (omega arith)
lists-before before (cell ∷ cells) =
    let l = length-append before ((cell.goal ∷ list_at before cell.rest) ∷ []) in
    sym (take-take (length before) (length (next before cell)) (lists_of_cells (next before cell) cells) (omega arith))
    ∙ ap (take (length before)) (lists-before (next before cell) cells)
    ∙ take-append-le (length before) before ((cell.goal ∷ list_at before cell.rest) ∷ []) (omega arith)
    ∙ take_all (length before) before (omega arith)

-- the first cells have the first lists
pub lists-take : (before : List (List Pending)) (cells : List Cell) (k : ℕ) → k ≤ length cells → take (length before + k) (lists_of_cells before cells) ≡ lists_of_cells before (take k cells)
lists-take before cells zero h = ap (λ n. take n (lists_of_cells before cells)) (add-zero (length before)) ∙ lists-before before cells
lists-take before [] (suc k) h = absurd (omega arith)
lists-take before (cell ∷ cells) (suc k) h =
    let l = length-append before ((cell.goal ∷ list_at before cell.rest) ∷ []) in
    let same : length (next before cell) + k ≡ length before + suc k = omega arith in
    ap (λ n. take n (lists_of_cells (next before cell) cells)) (sym same) ∙ lists-take (next before cell) cells k (omega arith)

-- the list of a cell
pub lists-at : (before : List (List Pending)) (cells : List Cell) (place : ℕ) (cell : Cell) → slice_get cells place ≡ Some cell → cell.rest < length before + place
    → list_at (lists_of_cells before cells) (length before + place) ≡ cell.goal ∷ list_at (lists_of_cells before cells) cell.rest
lists-at before [] place cell e h = cc
lists-at before (c ∷ cells) zero cell e h =
    let all : List (List Pending) = lists_of_cells (next before c) cells in
    let l = length-append before ((c.goal ∷ list_at before c.rest) ∷ []) in
    let is : c ≡ cell = same_Some c cell e in
    let within : cell.rest < length before = omega (arith, h) in
    let here : list_at all (length before) ≡ c.goal ∷ list_at before c.rest =
    sym (list_left (length (next before c)) all (length before) (omega arith)) ∙ ap (λ xs. list_at xs (length before)) (lists-before (next before c) cells)
    ∙ get_or_at before (c.goal ∷ list_at before c.rest) [] [] (length before) refl in
    let rest : list_at before cell.rest ≡ list_at all cell.rest =
    ap (λ xs. list_at xs cell.rest) (sym (lists-before before (c ∷ cells))) ∙ list_left (length before) all cell.rest within in
    ap (list_at all) (add-zero (length before)) ∙ here ∙ ap (λ (k : Cell). k.goal ∷ list_at before k.rest) is ∙ ap (λ xs. cell.goal ∷ xs) rest
lists-at before (c ∷ cells) (suc place) cell e h =
    let l = length-append before ((c.goal ∷ list_at before c.rest) ∷ []) in
    let same : length (next before c) + place ≡ length before + suc place = omega arith in
    ap (list_at (lists_of_cells (next before c) cells)) (sym same) ∙ lists-at (next before c) cells place cell e (omega (arith, same, h))

-- over the view of an arena, which begins with the empty list
module _ (cells : List Cell) (lists : List (List Pending)) (view : lists_of_cells ([] ∷ []) cells ≡ lists) where
  pub count : length lists ≡ length cells + 1
  count = let e = lists-length ([] ∷ []) cells in omega (arith, e, ap length view)

  pub pushed-lists : (more : List Cell) (cell : Cell) → more ≡ cells ++ cell ∷ [] → lists_of_cells ([] ∷ []) more ≡ lists ++ (cell.goal ∷ list_at lists cell.rest) ∷ []
  pushed-lists more cell e = ap (lists_of_cells ([] ∷ [])) e ∙ lists-push ([] ∷ []) cells cell ∙ ap (λ ls. ls ++ (cell.goal ∷ list_at ls cell.rest) ∷ []) view

  pub pushed-cells : (more : List Cell) (cell : Cell) → AreCells cells → more ≡ cells ++ cell ∷ [] → cell.rest < length lists → AreCells more
  pushed-cells more cell all e h = subst AreCells (sym e) (λ place c at. elim (get-push cells cell place c at) [
    | inl w ↦ all place c w
    | inr w ↦ let size = count in let same : cell.rest ≡ c.rest = ap (λ (k : Cell). k.rest) w.1 in omega (arith, h, same, w.0)
  ])

  pub taken-lists : (less : List Cell) (k : ℕ) → less ≡ take (k - 1) cells → 0 < k → k ≤ length lists → lists_of_cells ([] ∷ []) less ≡ take k lists
  taken-lists less k e some h =
      let size = count in
      let sum : 1 + (k - 1) ≡ k = omega (arith, some) in
      ap (lists_of_cells ([] ∷ [])) e ∙ sym (lists-take ([] ∷ []) cells (k - 1) (omega (arith, size, h))) ∙ ap (λ n. take n (lists_of_cells ([] ∷ []) cells)) sum ∙ ap (take k) view

  pub first-told : (list : ℕ) (cell : Cell) → AreCells cells → 0 < list → list < length lists → cell ≡ get_or cells (list - 1) cell
      → (list_at lists list ≡ cell.goal ∷ list_at lists cell.rest) × (cell.rest < length lists)
  first-told list cell all some h is =
      let size = count in
      let sum : 1 + (list - 1) ≡ list = omega (arith, some) in
      let at : slice_get cells (list - 1) ≡ Some cell = slice_get-get_or cells (list - 1) cell (omega (arith, size, h, some)) ∙ ap Some (sym is) in
      let older : cell.rest ≤ list - 1 = all (list - 1) cell at in (
        ap (list_at lists) (sym sum) ∙ ap (λ ls. list_at ls (1 + (list - 1))) (sym view)
            ∙ lists-at ([] ∷ []) cells (list - 1) cell at (omega (arith, older)) ∙ ap (λ ls. cell.goal ∷ list_at ls cell.rest) view,
        omega (arith, older, h, some),
      )

  -- the first list is the empty one
  pub first-empty : list_at lists 0 ≡ []
  first-empty = ap (λ ls. list_at ls 0) (sym view) ∙ sym (list_left 1 (lists_of_cells ([] ∷ []) cells) 0 (omega arith)) ∙ ap (λ ls. list_at ls 0) (lists-before ([] ∷ []) cells)
