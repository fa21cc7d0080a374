-- What the crates above cite of tables.
use Rattle.std.proofs.Common.{◌≡◌, ℕ, ◌<◌, ◌≤◌, ◌+◌, Bool, true, false, cond, not, nat_lt, List, [], ◌∷◌, length, Some, All, sym, subst, ap, ◌∙◌, arith}
use Rattle.std.proofs.lemmas.Bool.Decides.{nat_tests}
use Rattle.std.specs.List.{IsDistinct}
use Rattle.std.proofs.lemmas.List.Elements.{All-nil}
use Rattle.mars_tree.specs.Label.{arity_of}
use Rattle.mars_tree.specs.Graph.{Node, end_of}
use Rattle.mars_tree.specs.Canonical.{IsCanonical}
use Rattle.mars_rows.specs.Rows.{Row, HasRow}
use Rattle.mars_rows.specs.Object.{TableObject, empty_table, intern, fresh_before, row_number}
use Rattle.mars_rows.specs.Object.Interned.{kept, full}
use Rattle.mars_rows.specs.RowsObject.{with_tree, with_pin, root, too_many, add}
use Rattle.mars_rows.specs.Sound.{IsSound}
use Rattle.mars_rows.specs.Met.{InternKeepsMet, SweepKeepsMet}
use Rattle.mars_rows.specs.SoundLaws.{InternsToLasts, NumbersAgree}
use Rattle.mars_rows.specs.TreeGraph.{IsTreeGraph}
use Rattle.mars_rows.proofs.Grown as grown
use Rattle.mars_rows.proofs.Holding as holding
use Rattle.mars_rows.proofs.Interning as added
use Rattle.mars_rows.proofs.TreeFacts as facts
use Rattle.mars_rows.proofs.Pinned as pinned
use Rattle.mars_rows.proofs.StaysSound as stays

-- each node of the canonical graph of a tree is at the end of a path from the root
pub node_is_reached : (g : List Node) → IsCanonical g (0 ∷ []) → (n : ℕ) → n < length g → (path : List ℕ) × (end_of g 0 path ≡ Some n)
node_is_reached g is n lt = facts.reached_below g is (length g) n lt lt

pub interns_to_lasts : InternsToLasts
interns_to_lasts = stays.interns_to_lasts

pub numbers_agree : NumbersAgree
numbers_agree = stays.numbers_agree

pub intern_keeps_met : InternKeepsMet
intern_keeps_met = pinned.intern_keeps_met

pub sweep_keeps_met : SweepKeepsMet
sweep_keeps_met = pinned.sweep_keeps_met

-- interning keeps the limit
pub limit_kept : (t new : TableObject) (who h : ℕ) (g : List Node) → intern t who g ≡ kept h new → new.limit ≡ t.limit
limit_kept t new who h g e = sym (ap (λ (s : TableObject). s.limit) (pinned.intern_kept t new who h g e).1)

-- the empty table is sound
pub sound_empty : (cap : ℕ) → IsSound (empty_table cap)
unfolding IsDistinct
sound_empty cap = record {
  numbers = tt;
  below = All-nil (λ (row : Row). row.number < 0);
  closed = record { count = All-nil (λ (row : Row). length row.kids ≡ arity_of row.label); kids = All-nil (λ (row : Row). All (HasRow []) row.kids) };
  pins = All-nil (λ (pin : ℕ × ℕ). HasRow [] pin.1);
  limit = omega arith;
  apart = λ a b has other same. absurd (let e : ◌≡◌ {A = Bool} false true = has in cc);
}

-- what adding a tree that fits makes of a table, and that a pin on its root is then interning
pub record Interns (t : TableObject) (who : ℕ) (g : List Node) (h : ℕ) (new : TableObject) : Type 0 where
  pub has : HasRow new.rows h
  pub is : intern t who g ≡ kept h (with_pin new who h)
  pub rows : length new.rows ≡ length t.rows + fresh_before t.rows g (length g)
  pub next : new.next ≡ t.next + fresh_before t.rows g (length g)
  pub limit : new.limit ≡ t.limit

one_root : (h k : ℕ) (t u : TableObject) → root h t ≡ root k u → (h ≡ k) × (t ≡ u)
one_root h k t u e = (cc, cc)

module _ (t : TableObject) (g : List Node) (sound : IsSound t) (is : IsTreeGraph g) (room : length t.rows + length g ≤ t.limit) where
  has_room : nat_lt t.limit (length t.rows + fresh_before t.rows g (length g)) ≡ false
  has_room =
      let within : length t.rows + fresh_before t.rows g (length g) ≤ t.limit = omega (arith, room, grown.fresh_within t.rows g (length g)) in
      grind (arith, nat_tests)

  pub added_interns : (who h : ℕ) (new : TableObject) → add t g ≡ root h new → Interns t who g h new
  added_interns who h new e =
      let one = one_root (row_number t.rows t.next g 0) h (with_tree t g) new (sym (holding.add_here t g (ap not has_room)) ∙ e) in
      let means = added.intern_means t.rows t.next g sound.closed sound.apart sound.below is.graph is.labels is.canonical.distinct in
      record {
        has = subst (λ (u : TableObject). HasRow u.rows h) one.1 (subst (λ (k : ℕ). HasRow (with_tree t g).rows k) one.0 (means.trees 0 (facts.tree_some g is)).0);
        is = ap (λ b. cond b (full (length t.rows) (fresh_before t.rows g (length g)) t.limit) (kept (row_number t.rows t.next g 0) (pinned.grown t who g))) has_room
            ∙ ap (λ k. kept k (with_pin (with_tree t g) who k)) one.0 ∙ ap (λ u. kept h (with_pin u who h)) one.1;
        rows = ap (λ (u : TableObject). length u.rows) (sym one.1) ∙ stays.grown_length t who g sound is;
        next = ap (λ (u : TableObject). u.next) (sym one.1);
        limit = ap (λ (u : TableObject). u.limit) (sym one.1);
      }

  pub never_full : (r f : ℕ) → add t g ≡ too_many r f → ⊥
  never_full r f e =
      let no : root (row_number t.rows t.next g 0) (with_tree t g) ≡ too_many r f = sym (holding.add_here t g (ap not has_room)) ∙ e in
      cc

pub fresh_within : (rows : List Row) (tree : List Node) (n : ℕ) → fresh_before rows tree n ≤ n
fresh_within = grown.fresh_within
