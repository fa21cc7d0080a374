-- What each call makes of a sound table.
use Rattle.std.proofs.Common.{◌≡◌, ℕ, ◌<◌, ◌≤◌, ◌+◌, ◌&&◌, Bool, true, false, cond, nat_eq, List, [], ◌∷◌, length, Option, unwrap_or, IsSome, refl, sym, subst, ap, ◌∙◌, arith, inl, inr, All}
use Rattle.std.proofs.lemmas.List.Elements.{All-append, All-cons, All-nil, All-head, All-tail, All-contains}
use Rattle.mars_tree.specs.Graph.{Node, at}
use Rattle.mars_tree.proofs.CallerLemmas.{one_from_same_roots}
use Rattle.mars_canon.specs.Tree.{IsTree, most_nodes}
use Rattle.mars_rows.specs.Rows.{Row, HasRow, SameRow}
use Rattle.mars_rows.specs.Object.{TableObject, fresh_before, row_number, sweep}
use Rattle.mars_rows.specs.RowsObject.{fits, table_for, with_tree, without_first, add, Adding}
use Rattle.mars_rows.specs.RowsObject.Adding.{root, too_many}
use Rattle.mars_rows.specs.Sound.{IsSound, IsMet}
use Rattle.mars_rows.specs.TreeGraph.{IsTreeGraph}
use Rattle.mars_rows.proofs.Grown.{fresh_within}
use Rattle.mars_rows.proofs.Holding.{not_more}
use Rattle.mars_rows.proofs.Interning.{old_has, old_or_node, intern_means}
use Rattle.mars_rows.proofs.Pinned.{grown}
use Rattle.mars_rows.proofs.StaysSound.{grown_sound}
use Rattle.mars_rows.proofs.SweepsSound.{sweep_sound, same_tree}
use Rattle.mars_rows.proofs.Swept.{sweep_means}
use Rattle.mars_table.specs.declared.entry.Call.{Call}
use Rattle.mars_table.specs.declared.entry.Call.TheVariants.{Intern, Pin, Show, Drop, Sweep, Count}
use Rattle.mars_table.specs.declared.entry.Reply.{Reply}
use Rattle.mars_table.specs.declared.entry.Reply.TheVariants.{Kept, Full, Shown}
use Rattle.mars_table.specs.Calls.{MayCall, after_call, after_adding, reply_to_adding, IsShown}
use Rattle.mars_table.specs.HistoryLaws.{CallsKeepSound, InternTakesUnmet, RepliesAreDetermined}

-- a `Tree` is the canonical graph of its tree
pub tree_graph : (g : List Node) → IsTree g → IsTreeGraph g
tree_graph g is = record { graph = is.graph; labels = is.ground; canonical = is.canonical }

-- a row that a sweep leaves was a row, and is the same tree
pub swept_old : (t : TableObject) → IsSound t → (h : ℕ) → HasRow (sweep t).rows h → HasRow t.rows h × SameRow (sweep t).rows h t.rows h
swept_old t sound h has = (subst (λ (o : Option Row). IsSome o) ((sweep_means t sound.closed sound.pins).1 h has) has, same_tree t sound h has)

module _ (t : TableObject) (who : ℕ) (g : List Node) where
  -- Interning leaves the table and answers `Full`, or grows the table that the tree fits into.
  pub intern_cases : (P : TableObject → Reply → Type 0) → ((rows fresh : ℕ) → P t (Full rows fresh t.limit)) →
      (fits (table_for t g) g ≡ true → P (grown (table_for t g) who g) (Kept (record { 0 = row_number (table_for t g).rows (table_for t g).next g 0 }))) →
      P (after_call t who (Intern g)) (reply_to_adding t.limit (add t g))
  intern_cases P stays grows = either (fits (table_for t g) g) grows
    where
      u : TableObject
      u = table_for t g

      adding : Bool → Adding
      adding b = cond b (root (row_number u.rows u.next g 0) (with_tree u g)) (too_many (length u.rows) (fresh_before u.rows g (length g)))

      either : (b : Bool) → (b ≡ true → P (grown u who g) (Kept (record { 0 = row_number u.rows u.next g 0 }))) →
          P (after_adding t who (adding b)) (reply_to_adding t.limit (adding b))
      either true f = f refl
      either false f = stays (length u.rows) (fresh_before u.rows g (length g))

  -- what a tree is added to is the table, or what a sweep leaves
  pub for_cases : (P : TableObject → Type 0) → P t → P (sweep t) → P (table_for t g)
  for_cases P here swept = either (fits t g)
    where
      either : (b : Bool) → P (cond b t (sweep t))
      either true = here
      either false = swept

  -- the next number and the limit of what a tree is added to are the table's
  pub for_next : (table_for t g).next ≡ t.next
  for_next = for_cases (λ u. u.next ≡ t.next) refl refl

  pub for_limit : (table_for t g).limit ≡ t.limit
  for_limit = for_cases (λ u. u.limit ≡ t.limit) refl refl

  pub for_pins : (table_for t g).pins ≡ t.pins
  for_pins = for_cases (λ u. u.pins ≡ t.pins) refl refl

  module _ (sound : IsSound t) (is : IsTree g) where
    pub for_sound : IsSound (table_for t g)
    for_sound = for_cases IsSound sound (sweep_sound t sound)

    -- a row of what a tree is added to is one of the table's, and the same tree
    pub for_old : (h : ℕ) → HasRow (table_for t g).rows h → HasRow t.rows h × SameRow (table_for t g).rows h t.rows h
    for_old = for_cases (λ v. (h : ℕ) → HasRow v.rows h → HasRow t.rows h × SameRow v.rows h t.rows h) (λ h has. (has, λ path. refl)) (swept_old t sound)

    -- a row that a walk from a pin meets is a row of it
    pub for_met : (h : ℕ) → HasRow t.rows h → IsMet t h → HasRow (table_for t g).rows h
    for_met = for_cases (λ v. (h : ℕ) → HasRow t.rows h → IsMet t h → HasRow v.rows h) (λ h has met. has) (λ h has met. ((sweep_means t sound.closed sound.pins).0 h).1 met)

    -- the rows of what was grown: those before it, and fresh ones with numbers from the next one on
    pub grown_old : (h : ℕ) → h < t.next → HasRow (grown (table_for t g) who g).rows h → HasRow (table_for t g).rows h
    grown_old h lt has =
        elim (old_or_node (table_for t g).rows (table_for t g).next g for_sound.closed for_sound.apart for_sound.below is.graph is.ground is.canonical.distinct h has) [
          | inl old ↦ old
          | inr w ↦
              let fresh : (table_for t g).next + fresh_before (table_for t g).rows g w.0 ≡ row_number (table_for t g).rows (table_for t g).next g w.0 =
              ap (λ o. unwrap_or o ((table_for t g).next + fresh_before (table_for t g).rows g w.0)) (sym w.2) in
              absurd (omega (arith, lt, for_next, fresh, w.3))
        ]

    pub grown_same : (h : ℕ) → HasRow (table_for t g).rows h → HasRow (grown (table_for t g) who g).rows h × SameRow (grown (table_for t g) who g).rows h t.rows h
    grown_same h has =
        let means = intern_means (table_for t g).rows (table_for t g).next g for_sound.closed for_sound.apart for_sound.below is.graph is.ground is.canonical.distinct in
        let old = old_has (table_for t g).rows (table_for t g).next g for_sound.closed for_sound.apart for_sound.below is.graph is.ground is.canonical.distinct h has in
        (old.0, λ path. means.kept h has path ∙ (for_old h has).1 path)

    pub grown_is_sound : fits (table_for t g) g ≡ true → IsSound (grown (table_for t g) who g)
    grown_is_sound e = grown_sound (table_for t g) who g for_sound (tree_graph g is) (not_more (table_for t g).limit (length (table_for t g).rows + fresh_before (table_for t g).rows g (length g)) e)

-- one pin less keeps what holds of all
pub All-without : (P : ℕ × ℕ → Type 0) (who h : ℕ) (pins : List (ℕ × ℕ)) → All P pins → All P (without_first who h pins)
All-without P who h [] all = all
All-without P who h (pin ∷ pins) all = either (nat_eq pin.0 who && nat_eq pin.1 h) (All-without P who h pins (All-tail P pin pins all))
  where
    either : (b : Bool) → All P (without_first who h pins) → All P (cond b pins (pin ∷ without_first who h pins))
    either true rest = All-tail P pin pins all
    either false rest = All-cons P pin (without_first who h pins) (All-head P pin pins all) rest

pub calls_keep_sound : CallsKeepSound
calls_keep_sound t who (Intern g) sound is = intern_cases t who g (λ new reply. IsSound new) (λ rows fresh. sound) (grown_is_sound t who g sound is)
calls_keep_sound t who (Pin h) sound has = record {
  numbers = sound.numbers;
  below = sound.below;
  closed = sound.closed;
  pins = All-append (λ (pin : ℕ × ℕ). HasRow t.rows pin.1) t.pins ((who, h.0) ∷ []) sound.pins
      (All-cons (λ (pin : ℕ × ℕ). HasRow t.rows pin.1) (who, h.0) [] (All-contains (λ (pin : ℕ × ℕ). HasRow t.rows pin.1) t.pins (who, h.0) sound.pins has) (All-nil (λ (pin : ℕ × ℕ). HasRow t.rows pin.1)));
  limit = sound.limit;
  apart = sound.apart;
}
calls_keep_sound t who (Show h) sound has = sound
calls_keep_sound t who (Drop h) sound has = record {
  numbers = sound.numbers;
  below = sound.below;
  closed = sound.closed;
  pins = All-without (λ (pin : ℕ × ℕ). HasRow t.rows pin.1) who h.0 t.pins sound.pins;
  limit = sound.limit;
  apart = sound.apart;
}
calls_keep_sound t who Sweep sound may = sweep_sound t sound
calls_keep_sound t who Count sound may = sound

pub intern_takes_unmet : InternTakesUnmet
intern_takes_unmet t who h g sound is has met =
    intern_cases t who g (λ new reply. HasRow new.rows h) (λ rows fresh. has) (λ e. (grown_same t who g sound is h (for_met t who g sound is h has met)).0)

-- a row with an old number that is there after a call was there before it
pub was_there : (t : TableObject) (who h : ℕ) (call : Call) → IsSound t → MayCall t who call → h < t.next → HasRow (after_call t who call).rows h → HasRow t.rows h
was_there t who h (Intern g) sound is lt has =
    intern_cases t who g (λ new reply. HasRow new.rows h → HasRow t.rows h) (λ rows fresh there. there) (λ e there. (for_old t who g sound is h (grown_old t who g sound is h lt there)).0) has
was_there t who h (Pin k) sound may lt has = has
was_there t who h (Show k) sound may lt has = has
was_there t who h (Drop k) sound may lt has = has
was_there t who h Sweep sound may lt has = (swept_old t sound h has).0
was_there t who h Count sound may lt has = has

-- a row that is there before a call and after it is the same tree
pub stays_same : (t : TableObject) (who h : ℕ) (call : Call) → IsSound t → MayCall t who call → h < t.next → HasRow (after_call t who call).rows h → SameRow (after_call t who call).rows h t.rows h
stays_same t who h (Intern g) sound is lt has =
    intern_cases t who g (λ new reply. HasRow new.rows h → SameRow new.rows h t.rows h) (λ rows fresh there path. refl)
    (λ e there. (grown_same t who g sound is h (grown_old t who g sound is h lt there)).1) has
stays_same t who h (Pin k) sound may lt has = λ path. refl
stays_same t who h (Show k) sound may lt has = λ path. refl
stays_same t who h (Drop k) sound may lt has = λ path. refl
stays_same t who h Sweep sound may lt has = (swept_old t sound h has).1
stays_same t who h Count sound may lt has = λ path. refl

-- the next number is counted up by at most the nodes of a tree
pub next_after : (t : TableObject) (who : ℕ) (call : Call) → MayCall t who call → (t.next ≤ (after_call t who call).next) × ((after_call t who call).next ≤ t.next + most_nodes)
next_after t who (Intern g) is =
    intern_cases t who g (λ new reply. (t.next ≤ new.next) × (new.next ≤ t.next + most_nodes)) (λ rows fresh. (omega arith, omega arith))
    (λ e. let within = fresh_within (table_for t g).rows g (length g) in (omega (arith, for_next t who g), omega (arith, for_next t who g, within, is.few)))
next_after t who (Pin h) may = (omega arith, omega arith)
next_after t who (Show h) may = (omega arith, omega arith)
next_after t who (Drop h) may = (omega arith, omega arith)
next_after t who Sweep may = (omega arith, omega arith)
next_after t who Count may = (omega arith, omega arith)

one_shown : (t : TableObject) (h : ℕ) (reply again : Reply) → IsShown t h reply → IsShown t h again → reply ≡ again
one_shown t h reply again a b =
    let same : (path : List ℕ) → at a.tree 0 path ≡ at b.tree 0 path = λ path. sym (a.is_of path) ∙ b.is_of path in
    let one = one_from_same_roots a.tree b.tree (0 ∷ []) (0 ∷ []) a.is_tree.graph b.is_tree.graph a.is_tree.canonical b.is_tree.canonical (same, tt) in
    a.is ∙ ap Shown one.0 ∙ sym b.is

pub replies_are_determined : RepliesAreDetermined
replies_are_determined t (Intern g) reply again sound a b = a ∙ sym b
replies_are_determined t (Pin h) reply again sound a b = a ∙ sym b
replies_are_determined t (Show h) reply again sound a b = one_shown t h.0 reply again a b
replies_are_determined t (Drop h) reply again sound a b = a ∙ sym b
replies_are_determined t Sweep reply again sound a b = a ∙ sym b
replies_are_determined t Count reply again sound a b = a ∙ sym b

-- no call changes the limit
pub limit_after : (t : TableObject) (who : ℕ) (call : Call) → (after_call t who call).limit ≡ t.limit
limit_after t who (Intern g) = intern_cases t who g (λ new reply. new.limit ≡ t.limit) (λ rows fresh. refl) (λ e. for_limit t who g)
limit_after t who (Pin h) = refl
limit_after t who (Show h) = refl
limit_after t who (Drop h) = refl
limit_after t who Sweep = refl
limit_after t who Count = refl
