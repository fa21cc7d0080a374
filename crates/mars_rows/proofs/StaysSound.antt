-- Tables stay sound.
use Rattle.std.proofs.Common.{◌≡◌, ◌≢◌, ℕ, ◌<◌, ◌≤◌, ◌+◌, Bool, true, false, cond, nat_eq, nat_lt, List, [], ◌∷◌, ◌++◌, length, get_or, None, refl, sym, subst, ap, ◌∙◌, arith, All, length-append}
use Rattle.std.specs.List.{IsDistinct}
use Rattle.std.proofs.lemmas.Bool.Decides.{nat_tests}
use Rattle.std.proofs.lemmas.List.{length-map}
use Rattle.std.proofs.lemmas.List.Elements.{All-append, All-cons, All-nil, All-weaker, All-map}
use Rattle.mars_tree.specs.Graph.{Node, IsGround, label_of, free_leaf, Same}
use Rattle.mars_tree.proofs.CallerLemmas.{label_in, one_from_same_roots}
use Rattle.mars_rows.specs.FreshInside.{fresh_nodes}
use Rattle.mars_rows.specs.Object.{TableObject, intern, kept, full, fresh_before, fresh_rows, row_number}
use Rattle.mars_tree.specs.Renumbered.{renumbered_node, renumbered}
use Rattle.mars_rows.specs.Rows.{Row, HasRow, tree_of}
use Rattle.mars_rows.specs.Sound.{IsSound}
use Rattle.mars_rows.specs.SoundLaws.{table_after, InternKeepsSound, InternsToLasts, NumbersAgree, OneInterning}
use Rattle.mars_rows.specs.RowsInside.{rows_from}
use Rattle.mars_rows.specs.TreeGraph.{IsTreeGraph}
use Rattle.mars_rows.proofs.Interning.{old_has, intern_means}
use Rattle.mars_rows.proofs.Distinct.{numbers, distinct-append}
use Rattle.mars_rows.proofs.FreshRows.{rows_fresh, fresh_in_range, length-fresh}
use Rattle.mars_rows.proofs.TreeFacts.{tree_some}
use Rattle.mars_base.proofs.ListFacts.{All-from_gets, All-get}
use Rattle.mars_rows.proofs.Pinned.{grown, intern_keeps_trees}
use Rattle.mars_rows.proofs.Stored.{All-stored, distinct_stored, length-stored, stored_number}

module _ (t : TableObject) (who : ℕ) (g : List Node) (sound : IsSound t) (is : IsTreeGraph g) where
  -- the fresh nodes, under their numbers
  fresh_graph : List Node
  fresh_graph = renumbered g (row_number t.rows t.next g) (fresh_nodes t.rows g (length g))

  fresh_are : rows_from t.next fresh_graph ≡ fresh_rows t.rows t.next g
  unfolding fresh_graph
  fresh_are = rows_fresh t.rows t.next g 0 (length g) t.next (omega arith)

  fresh_ground : IsGround fresh_graph
  unfolding fresh_graph
  fresh_ground = All-map (λ node. node.label ≢ None) (renumbered_node g (row_number t.rows t.next g)) (fresh_nodes t.rows g (length g))
      (All-from_gets (λ n. label_of g n ≢ None) (fresh_nodes t.rows g (length g)) (λ k n e.
      label_in g n is.labels (All-get (λ n. n < length g) (fresh_nodes t.rows g (length g)) k n (fresh_in_range t.rows g (length g)) e)))

  fresh_length : length fresh_graph ≡ fresh_before t.rows g (length g)
  unfolding fresh_graph
  fresh_length = length-map (fresh_nodes t.rows g (length g)) (renumbered_node g (row_number t.rows t.next g)) ∙ length-fresh t.rows t.next g (length g)

  fresh_numbers : All (λ row. (t.next ≤ row.number) × (row.number < t.next + fresh_before t.rows g (length g))) (fresh_rows t.rows t.next g)
  fresh_numbers =
      subst (All (λ row. (t.next ≤ row.number) × (row.number < t.next + fresh_before t.rows g (length g)))) fresh_are
      (All-stored (λ row. (t.next ≤ row.number) × (row.number < t.next + fresh_before t.rows g (length g))) t.next fresh_graph fresh_ground (λ i row lt e.
      let number : row.number ≡ t.next + i = stored_number (t.next + i) (get_or fresh_graph i free_leaf) row e in
      (omega (arith, number), omega (arith, number, lt, fresh_length))))

  pub grown_length : length (t.rows ++ fresh_rows t.rows t.next g) ≡ length t.rows + fresh_before t.rows g (length g)
  grown_length = omega (arith, length-append t.rows (fresh_rows t.rows t.next g), ap length fresh_are, length-stored t.next fresh_graph fresh_ground, fresh_length)

  pub grown_sound : length t.rows + fresh_before t.rows g (length g) ≤ t.limit → IsSound (grown t who g)
  grown_sound fits =
      let more : List Row = fresh_rows t.rows t.next g in
      let next : ℕ = t.next + fresh_before t.rows g (length g) in
      let m = intern_means t.rows t.next g sound.closed sound.apart sound.below is.graph is.labels is.canonical.distinct in
      let keeps = old_has t.rows t.next g sound.closed sound.apart sound.below is.graph is.labels is.canonical.distinct in
      record {
        numbers = distinct-append t.rows more t.next sound.numbers sound.below (subst (λ (rows : List Row). IsDistinct nat_eq (numbers rows)) fresh_are (distinct_stored t.next fresh_graph fresh_ground))
            (All-weaker (λ row. (t.next ≤ row.number) × (row.number < next)) (λ row. t.next ≤ row.number) (λ row b. b.0) more fresh_numbers);
        below = All-append (λ row. row.number < next) t.rows more (All-weaker (λ row. row.number < t.next) (λ row. row.number < next) (λ row lt. omega (arith, lt)) t.rows sound.below)
            (All-weaker (λ row. (t.next ≤ row.number) × (row.number < next)) (λ row. row.number < next) (λ row b. b.1) more fresh_numbers);
        closed = m.closed;
        pins = All-append (λ (pin : ℕ × ℕ). HasRow (t.rows ++ more) pin.1) t.pins ((who, row_number t.rows t.next g 0) ∷ [])
            (All-weaker (λ (pin : ℕ × ℕ). HasRow t.rows pin.1) (λ (pin : ℕ × ℕ). HasRow (t.rows ++ more) pin.1) (λ pin has. (keeps pin.1 has).0) t.pins sound.pins)
            (All-cons (λ (pin : ℕ × ℕ). HasRow (t.rows ++ more) pin.1) (who, row_number t.rows t.next g 0) [] (m.trees 0 (tree_some g is)).0 (All-nil (λ (pin : ℕ × ℕ). HasRow (t.rows ++ more) pin.1)));
        limit = omega (arith, grown_length, fits);
        apart = m.apart;
      }

pub intern_keeps_sound : InternKeepsSound
intern_keeps_sound t who g sound is =
    let fresh : ℕ = fresh_before t.rows g (length g) in
    either (nat_lt t.limit (length t.rows + fresh)) (λ none. grown_sound t who g sound is (grind (arith, nat_tests, none)))
  where
    either : (b : Bool) → (b ≡ false → IsSound (grown t who g)) →
        IsSound (table_after t (cond b (full (length t.rows) (fresh_before t.rows g (length g)) t.limit) (kept (row_number t.rows t.next g 0) (grown t who g))))
    either true fits = sound
    either false fits = fits refl

pub interns_to_lasts : InternsToLasts
interns_to_lasts old new who g root h sound to =
    let keeps = intern_keeps_trees old new who h to.tree sound to.is.is_tree to.kept in
    record {
      sound = subst IsSound (ap (table_after old) to.kept) (intern_keeps_sound old who to.tree sound to.is.is_tree);
      trees = keeps.0;
      has = keeps.1;
      tree = λ path. keeps.2 path ∙ to.is.same path;
    }

pub numbers_agree : NumbersAgree
numbers_agree t g h n m a b sound has_a has_b left right = (
  λ e path. sym (left path) ∙ ap (λ i. tree_of t.rows i path) e ∙ right path,
  λ same. sound.apart a b has_a has_b (λ path. left path ∙ same path ∙ sym (right path)),
)

pub one_interning : OneInterning
one_interning old new other who g h n m a b left right same =
    let roots : Same left.tree 0 right.tree 0 = λ path. left.is.same path ∙ same path ∙ sym (right.is.same path) in
    let one = one_from_same_roots left.tree right.tree (0 ∷ []) (0 ∷ []) left.is.is_tree.graph right.is.is_tree.graph left.is.is_tree.canonical right.is.is_tree.canonical (roots, tt) in
    let both : kept a new ≡ kept b other = sym left.kept ∙ ap (intern old who) one.0 ∙ right.kept in
    (cc, cc)
