-- When a table is LL(1): one token tells which form a symbol has. What the test needs is computed from the table.
use Rattle.std.specs.Prelude.{◌≡◌, ℕ, zero, suc, List, [], ◌∷◌, Option, Some, None, Bool, true, false, ◌&&◌, ◌||◌, not, is_some, nat_lt, map, slice_get, if◌then◌else◌}
use Rattle.mars_grammar.specs.FormTable.{FormTable, leaves_in}

-- all symbols, kinds and modes, each at its place in the list; a token of each kind
pub record Listing (S K T M : Type 0) : Type 0 where
  pub symbols : List S
  pub symbol_place : S → ℕ
  pub kinds : List K
  pub kind_place : K → ℕ
  pub modes : List M
  pub mode_place : M → ℕ
  pub sample : K → T
  -- how often the computed parts of the test are gone over; too few fail the test
  pub rounds : ℕ

-- what a table is tested with: lists of all symbols, kinds and modes; which kinds may not come after a symbol; and a way to end each symbol
pub record Test (S K T M : Type 0) : Type 0 where
  pub symbols : List S
  pub symbol_place : S → ℕ
  pub kinds : List K
  pub kind_place : K → ℕ
  pub modes : List M
  pub mode_place : M → ℕ
  pub bars : S → K → Bool
  -- the token that ends the symbol, if it isn't left out, and the symbols due after it have a lesser rank
  pub way : S → Option T
  pub rank : S → ℕ

-- a test holds of each item
abbrev pub all_of : {A : Type 0} → (A → Bool) → List A → Bool
all_of p [] = true
all_of p (x ∷ xs) = p x && all_of p xs

-- the second holds where the first does
abbrev pub implies : Bool → Bool → Bool
implies a b = not a || b

-- all of these can be left out
abbrev pub is_optional : {S K T A M : Type 0} → FormTable S K T A M → List S → Bool
is_optional G [] = true
is_optional G (s ∷ k) = is_some (G.leaves s) && is_optional G k

-- a token of this kind can come first
abbrev pub may : {S K T A M : Type 0} → FormTable S K T A M → K → List S → Bool
may G u [] = false
may G u (s ∷ k) = is_some (G.takes s u) || (is_some (G.leaves s) && may G u k)

-- a form of a symbol: none of its symbols bars what can come after it
abbrev pub form_fits : {S K T A M : Type 0} → FormTable S K T A M → Test S K T M → S → List S → Bool
form_fits G C s [] = true
form_fits G C s (x ∷ y) = all_of (λ u. implies (C.bars x u) (not (may G u y))) C.kinds && (implies (is_optional G y) (all_of (λ u. implies (C.bars x u) (C.bars s u)) C.kinds) && form_fits G C s y)

-- likewise of a form that there may be
abbrev pub form_fits_if : {S K T A M : Type 0} → FormTable S K T A M → Test S K T M → S → Option (List S) → Bool
form_fits_if G C s None = true
form_fits_if G C s (Some form) = form_fits G C s form

-- the symbols that a text begins with
abbrev pub starts : {S K T A M : Type 0} → FormTable S K T A M → Test S K T M → List S → Bool
starts G C [] = true
starts G C (x ∷ y) = all_of (λ u. implies (C.bars x u) (not (may G u y))) C.kinds && starts G C y

-- each form of each symbol fits
abbrev pub fits_each : {S K T A M : Type 0} → FormTable S K T A M → Test S K T M → Bool
fits_each G C = all_of (λ s. all_of (λ u. form_fits_if G C s (G.takes s u)) C.kinds) C.symbols

-- a symbol that can be left out bars what it takes
abbrev pub bars_each : {S K T A M : Type 0} → FormTable S K T A M → Test S K T M → Bool
bars_each G C = all_of (λ s. all_of (λ u. implies (is_some (G.leaves s) && is_some (G.takes s u)) (C.bars s u)) C.kinds) C.symbols

-- all symbols of the form have a lesser rank
abbrev pub lesser_if : {S K T M : Type 0} → Test S K T M → ℕ → Option (List S) → Bool
lesser_if C n None = false
lesser_if C n (Some form) = all_of (λ s. nat_lt (C.rank s) n) form

-- a symbol is left out in each mode, or a token ends it
abbrev pub ends_by : {S K T A M : Type 0} → FormTable S K T A M → Test S K T M → S → Option T → Bool
ends_by G C s None = all_of (λ m. is_some (leaves_in G m s)) C.modes
ends_by G C s (Some t) = lesser_if C (C.rank s) (G.takes s (G.kind t))

-- each symbol ends
abbrev pub ends_each : {S K T A M : Type 0} → FormTable S K T A M → Test S K T M → Bool
ends_each G C = all_of (λ s. ends_by G C s (C.way s)) C.symbols

-- The table is LL(1), and each beginning of a text can be ended.
pub record Passes {S K T A M : Type 0} (G : FormTable S K T A M) (C : Test S K T M) : Type 0 where
  pub all_symbols : (s : S) → slice_get C.symbols (C.symbol_place s) ≡ Some s
  pub all_kinds : (u : K) → slice_get C.kinds (C.kind_place u) ≡ Some u
  pub all_modes : (m : M) → slice_get C.modes (C.mode_place m) ≡ Some m
  pub forms : fits_each G C ≡ true
  pub barred : bars_each G C ≡ true
  pub ended : ends_each G C ≡ true

-- sets of kinds, a Bool a kind, in the order of the list
abbrev pub either_kind : List Bool → List Bool → List Bool
either_kind [] ys = ys
either_kind (x ∷ xs) [] = x ∷ xs
either_kind (x ∷ xs) (y ∷ ys) = (x || y) ∷ either_kind xs ys

-- one kind of a set, and a set of a list of sets
abbrev pub flag_in : Option Bool → Bool
flag_in None = false
flag_in (Some b) = b

abbrev pub set_in : Option (List Bool) → List Bool
set_in None = []
set_in (Some set) = set

-- what may not come after the last symbols of a form may not come after the symbol
abbrev pub last_bars : {S K T A M : Type 0} → FormTable S K T A M → (S → List Bool) → List S → List Bool
last_bars G barred [] = []
last_bars G barred (x ∷ y) = either_kind (if is_optional G y then barred x else []) (last_bars G barred y)

-- likewise of a form that there may be, and of all forms of a symbol
abbrev pub last_bars_if : {S K T A M : Type 0} → FormTable S K T A M → (S → List Bool) → Option (List S) → List Bool
last_bars_if G barred None = []
last_bars_if G barred (Some form) = last_bars G barred form

abbrev pub each_form_bars : {S K T A M : Type 0} → FormTable S K T A M → (S → List Bool) → S → List K → List Bool
each_form_bars G barred s [] = []
each_form_bars G barred s (u ∷ us) = either_kind (last_bars_if G barred (G.takes s u)) (each_form_bars G barred s us)

-- what a symbol that can be left out takes
abbrev pub own_bars : {S K T A M : Type 0} → FormTable S K T A M → Listing S K T M → S → List Bool
own_bars G L s = map (λ u. is_some (G.leaves s) && is_some (G.takes s u)) L.kinds

-- the bars of each symbol, by one more round
abbrev pub bars_more : {S K T A M : Type 0} → FormTable S K T A M → Listing S K T M → List (List Bool) → List (List Bool)
bars_more G L sets = map (λ s. either_kind (own_bars G L s) (each_form_bars G (λ x. set_in (slice_get sets (L.symbol_place x))) s L.kinds)) L.symbols

abbrev pub bars_after : {S K T A M : Type 0} → FormTable S K T A M → Listing S K T M → ℕ → List (List Bool)
bars_after G L zero = []
bars_after G L (suc n) = bars_more G L (bars_after G L n)

-- how a symbol ends: the token that it takes then, if any, and its rank
pub record Ending (T : Type 0) : Type 0 where
  pub by : Option T
  pub rank : ℕ

abbrev pub ending_by : {T : Type 0} → Option T → ℕ → Ending T
ending_by o n = record { by = o; rank = n }

-- the ending that is known first
abbrev pub first_ending : {T : Type 0} → Option (Ending T) → Option (Ending T) → Option (Ending T)
first_ending None later = later
first_ending (Some e) later = Some e

abbrev pub known_ending : {T : Type 0} → Option (Option (Ending T)) → Option (Ending T)
known_ending None = None
known_ending (Some e) = e

-- each symbol of a form is known to end
abbrev pub are_known : {S T : Type 0} → (S → Option (Ending T)) → Option (List S) → Bool
are_known known None = false
are_known known (Some form) = all_of (λ x. is_some (known x)) form

-- the first kind whose form has only symbols that are known to end
abbrev pub ending_form : {S K T A M : Type 0} → FormTable S K T A M → Listing S K T M → (S → Option (Ending T)) → S → ℕ → List K → Option (Ending T)
ending_form G L known s n [] = None
ending_form G L known s n (u ∷ us) = if are_known known (G.takes s u) then Some (ending_by (Some (L.sample u)) n) else ending_form G L known s n us

-- how each symbol ends, by one more round: in this round one that is left out in each mode, or has a form of known symbols
abbrev pub endings_more : {S K T A M : Type 0} → FormTable S K T A M → Listing S K T M → ℕ → List (Option (Ending T)) → List (Option (Ending T))
endings_more G L n known = map (λ s. first_ending (known_ending (slice_get known (L.symbol_place s)))
    (if all_of (λ m. is_some (leaves_in G m s)) L.modes then Some (ending_by None n) else ending_form G L (λ x. known_ending (slice_get known (L.symbol_place x))) s n L.kinds)) L.symbols

abbrev pub endings_after : {S K T A M : Type 0} → FormTable S K T A M → Listing S K T M → ℕ → List (Option (Ending T))
endings_after G L zero = []
endings_after G L (suc n) = endings_more G L n (endings_after G L n)

-- the parts of an ending that may be known
abbrev pub way_in : {T : Type 0} → Option (Option (Ending T)) → Option T
way_in None = None
way_in (Some None) = None
way_in (Some (Some e)) = e.by

abbrev pub rank_in : {T : Type 0} → Option (Option (Ending T)) → ℕ
rank_in None = 0
rank_in (Some None) = 0
rank_in (Some (Some e)) = e.rank

-- the test with these bars and endings
abbrev pub test_with : {S K T M : Type 0} → Listing S K T M → List (List Bool) → List (Option (Ending T)) → Test S K T M
test_with L sets endings = record {
  symbols = L.symbols;
  symbol_place = L.symbol_place;
  kinds = L.kinds;
  kind_place = L.kind_place;
  modes = L.modes;
  mode_place = L.mode_place;
  bars = λ s u. flag_in (slice_get (set_in (slice_get sets (L.symbol_place s))) (L.kind_place u));
  way = λ s. way_in (slice_get endings (L.symbol_place s));
  rank = λ s. rank_in (slice_get endings (L.symbol_place s));
}

-- The test of a table: what must not come after each symbol, and how each symbol ends, by as many rounds as are listed.
abbrev pub test_of : {S K T A M : Type 0} → FormTable S K T A M → Listing S K T M → Test S K T M
test_of G L = test_with L (bars_after G L L.rounds) (endings_after G L L.rounds)
