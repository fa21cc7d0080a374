-- Graphs that solve one system have one canonical graph.
use Rattle.std.proofs.Common.{◌≡◌, ℕ, zero, suc, ◌<◌, List, [], ◌∷◌, ◌++◌, Option, Some, None, length, slice_get, option_and_then, refl, sym, subst, ap, ◌∙◌}
use Rattle.std.specs.Option.{option_map}
use Rattle.mars_reach.proofs.Numbers.{All-slice_get}
use Rattle.mars_tree.specs.declared.label.NameId.{NameId}
use Rattle.mars_tree.specs.declared.label.Label.{Label}
use Rattle.mars_tree.specs.Graph.{Node, Shown, label_of, kids_of, shown_at, stands, end_of, at}
use Rattle.mars_tree.specs.Graph as graph
use Rattle.mars_tree.specs.Walk.{walk}
use Rattle.mars_tree.specs.Canonical.{walk_shows, EndAlike, EndTogether, KeepsWalks}
use Rattle.mars_tree.proofs.Walks.{walk-append}
use Rattle.mars_tree.proofs.Paths.{end_in}
use Rattle.mars_canon.specs.Canon.{Rooted, IsCanon, HaveAlikeWalks}
use Rattle.mars_canon.proofs.Forms.{one_form_of_walks}
use Rattle.mars_graphs.specs.Systems.{EquationSystem, Tip, tip_at, ShowsTip, IsSolution}
use Rattle.mars_graphs.specs.Systems as system
use Rattle.mars_back.specs.OneMeaning.{SolutionsKeepWalks}

nothing_some : {s : Shown} → ◌≡◌ {A = Option Shown} None (Some s) → ⊥
nothing_some e = cc

label_free : {l : Label} {n : ℕ} → ◌≡◌ {A = Option Shown} (Some (graph.label l)) (Some (graph.free n)) → ⊥
label_free e = cc

nothing_of : (p : Option Shown) → ShowsTip None p → p ≡ None
nothing_of None a = refl
nothing_of (Some s) a = absurd a

label_shown : (l : Label) (p : Option Shown) → ShowsTip (Some (system.label l)) p → p ≡ Some (graph.label l)
label_shown l (Some (graph.label shown)) a = ap (λ (m : Label). Some (graph.label m)) (sym a)
label_shown l (Some (graph.free n)) a = absurd a
label_shown l None a = absurd a

free_shown : (x : NameId) (p : Option Shown) → ShowsTip (Some (system.free x)) p → (n : ℕ) × (p ≡ Some (graph.free n))
free_shown x (Some (graph.free n)) a = (n, refl)
free_shown x (Some (graph.label l)) a = absurd a
free_shown x None a = absurd a

-- what is said alike is shown alike, where free variables are
said_shown : (o : Option Tip) (p q : Option Shown) → ShowsTip o p → ShowsTip o q → ((x : NameId) → o ≡ Some (system.free x) → p ≡ q) → p ≡ q
said_shown None p q a b leaves = nothing_of p a ∙ sym (nothing_of q b)
said_shown (Some (system.free x)) p q a b leaves = leaves x refl
said_shown (Some (system.label l)) p q a b leaves = label_shown l p a ∙ sym (label_shown l q b)

-- what is shown alike is said alike, where free variables are
shown_said : (o u : Option Tip) (p q : Option Shown) → ShowsTip o p → ShowsTip u q → p ≡ q → ((x y : NameId) → o ≡ Some (system.free x) → u ≡ Some (system.free y) → o ≡ u) → o ≡ u
shown_said None None p q a b e leaves = refl
shown_said None (Some (system.label l)) p q a b e leaves = absurd (nothing_some (sym (nothing_of p a) ∙ e ∙ label_shown l q b))
shown_said None (Some (system.free y)) p q a b e leaves = absurd (nothing_some (sym (nothing_of p a) ∙ e ∙ (free_shown y q b).1))
shown_said (Some (system.label l)) None p q a b e leaves = absurd (nothing_some (sym (nothing_of q b) ∙ sym e ∙ label_shown l p a))
shown_said (Some (system.free x)) None p q a b e leaves = absurd (nothing_some (sym (nothing_of q b) ∙ sym e ∙ (free_shown x p a).1))
shown_said (Some (system.label l)) (Some (system.free y)) p q a b e leaves = absurd (label_free (sym (label_shown l p a) ∙ e ∙ (free_shown y q b).1))
shown_said (Some (system.free x)) (Some (system.label l)) p q a b e leaves = absurd (label_free (sym (label_shown l q b) ∙ sym e ∙ (free_shown x p a).1))
shown_said (Some (system.free x)) (Some (system.free y)) p q a b e leaves = leaves x y refl refl
shown_said (Some (system.label l)) (Some (system.label m)) p q a b e leaves = let both : Some (graph.label l) ≡ Some (graph.label m) = sym (label_shown l p a) ∙ e ∙ label_shown m q b in cc

-- the node where a free leaf is shown
shown_free : (g : List Node) (n k : ℕ) → shown_at g n ≡ graph.free k → n ≡ k
shown_free g n k e = by (label_of g n) e
  where
    by : (l : Option Label) → stands l n ≡ graph.free k → n ≡ k
    by (Some l) e = absurd (cc)
    by None e = cc

end_free : (g : List Node) (o : Option ℕ) (k : ℕ) → option_map (shown_at g) o ≡ Some (graph.free k) → o ≡ Some k
end_free g None k e = absurd (cc)
end_free g (Some n) k e = ap Some (shown_free g n k cc)

-- in a solution two paths show the same exactly where the system says the same there
module _ (s : EquationSystem) (g : List Node) (root : ℕ) (is : IsSolution s g root) (path other : List ℕ) where
  places_say : at g root path ≡ at g root other → tip_at s path ≡ tip_at s other
  places_say e = shown_said (tip_at s path) (tip_at s other) (at g root path) (at g root other) (is.shown path) (is.shown other) e
      (λ x y here also.
      let p = free_shown x (at g root path) (subst (λ o. ShowsTip o (at g root path)) here (is.shown path)) in
      let ends : end_of g root path ≡ end_of g root other = end_free g (end_of g root path) p.0 p.1 ∙ sym (end_free g (end_of g root other) p.0 (sym e ∙ p.1)) in
      here ∙ ap (λ z. Some (system.free z)) ((is.leaves path other x y here also).1 ends) ∙ sym also)

  places_show : tip_at s path ≡ tip_at s other → at g root path ≡ at g root other
  places_show e = said_shown (tip_at s path) (at g root path) (at g root other) (is.shown path) (subst (λ o. ShowsTip o (at g root other)) (sym e) (is.shown other))
      (λ x here. ap (λ o. option_map (shown_at g) o) ((is.leaves path other x x here (sym e ∙ here)).0 refl))

-- the label at an end, a free leaf's being none
abbrev labels : List Node → Option ℕ → Option (Option Label)
labels g o = option_and_then (λ n. Some (label_of g n)) o

-- what is there shows its label
abbrev label_there : Option Shown → Option (Option Label)
label_there None = None
label_there (Some (graph.label l)) = Some (Some l)
label_there (Some (graph.free n)) = Some None

shows_label : (l : Option Label) (n : ℕ) → label_there (Some (stands l n)) ≡ Some l
shows_label (Some l) n = refl
shows_label None n = refl

labels_are : (g : List Node) (o : Option ℕ) → labels g o ≡ label_there (option_map (shown_at g) o)
labels_are g None = refl
labels_are g (Some n) = sym (shows_label (label_of g n) n)

-- what one tip agrees with has one label
one_label : (o : Option Tip) (p q : Option Shown) → ShowsTip o p → ShowsTip o q → label_there p ≡ label_there q
one_label None p q a b = ap label_there (nothing_of p a ∙ sym (nothing_of q b))
one_label (Some (system.label l)) p q a b = ap label_there (label_shown l p a ∙ sym (label_shown l q b))
one_label (Some (system.free x)) p q a b = ap label_there (free_shown x p a).1 ∙ sym (ap label_there (free_shown x q b).1)

end_there : (g : List Node) (o : Option ℕ) (l : Option Label) → labels g o ≡ Some l → (n : ℕ) × (o ≡ Some n)
end_there g None l e = cc
end_there g (Some n) l e = (n, refl)

further : (g : List Node) (root n : ℕ) (p r : List ℕ) → end_of g root p ≡ Some n → at g root (p ++ r) ≡ at g n r
further g root n p r e = ap (option_map (shown_at g)) (walk-append (kids_of g) root p r ∙ ap (option_and_then (λ (m : ℕ). walk (kids_of g) m r)) e)

module _ (s : EquationSystem) (g : List Node) (root : ℕ) (h : List Node) (start : ℕ) (is : IsSolution s g root) (also : IsSolution s h start) where
  one_shown : (path : List ℕ) → labels g (end_of g root path) ≡ labels h (end_of h start path)
  one_shown path = labels_are g (end_of g root path) ∙ one_label (tip_at s path) (at g root path) (at h start path) (is.shown path) (also.shown path) ∙ sym (labels_are h (end_of h start path))

  pub same_shown : (w : ℕ × List ℕ) → walk_shows g (root ∷ []) w ≡ walk_shows h (start ∷ []) w
  same_shown (zero, path) = one_shown path
  same_shown (suc k, path) = refl

  -- ends that are alike in the one are alike in the other
  pub same_alike : (w v : ℕ × List ℕ) → EndAlike g (root ∷ []) w v → EndAlike h (start ∷ []) w v
  same_alike (zero, p) (zero, q) (n, m, e, f, same) =
      let here = end_there h (end_of h start p) (label_of g n) (sym (one_shown p) ∙ ap (labels g) e) in
      let there = end_there h (end_of h start q) (label_of g m) (sym (one_shown q) ∙ ap (labels g) f) in (
        here.0,
        there.0,
        here.1,
        there.1,
        λ r.
            let said : tip_at s (p ++ r) ≡ tip_at s (q ++ r) = places_say s g root is (p ++ r) (q ++ r) (further g root n p r e ∙ same r ∙ sym (further g root m q r f)) in
            sym (further h start here.0 p r here.1) ∙ places_show s h start also (p ++ r) (q ++ r) said ∙ further h start there.0 q r there.1,
      )
  same_alike (suc k, p) v (n, m, e, f, same) = cc
  same_alike (zero, p) (suc k, q) (n, m, e, f, same) = cc

walk_in : (x : Rooted) → IsCanon x → (w : ℕ × List ℕ) (n : ℕ) (o : Option ℕ) → slice_get x.roots w.0 ≡ o → option_and_then (λ root. end_of x.nodes root w.1) o ≡ Some n → n < length x.nodes
walk_in x is w n None e f = cc
walk_in x is w n (Some root) e f = end_in x.nodes root w.1 n is.graph (All-slice_get (λ r. r < length x.nodes) x.roots w.0 root is.roots_in e) f

-- in a canonical graph ends that are alike are one
together : (x : Rooted) → IsCanon x → (w v : ℕ × List ℕ) → EndAlike x.nodes x.roots w v → EndTogether x.nodes x.roots w v
together x is w v (n, m, e, f, same) =
    let one : n ≡ m = is.canonical.distinct n m (walk_in x is w n (slice_get x.roots w.0) refl e) (walk_in x is v m (slice_get x.roots v.0) refl f) same in
    (n, e, f ∙ ap (λ (k : ℕ). Some k) (sym one))

alike : (g : List Node) (roots : List ℕ) (w v : ℕ × List ℕ) → EndTogether g roots w v → EndAlike g roots w v
alike g roots w v (n, e, f) = (n, n, e, f, λ path. refl)

-- the canonical graph of a solution is that of each other one
pub one_form : (s : EquationSystem) (c : Rooted) (root : ℕ) → IsCanon c → c.roots ≡ root ∷ [] → IsSolution s c.nodes root → (h : List Node) (start : ℕ) → IsSolution s h start → (d : Rooted) → IsCanon d → KeepsWalks h (start ∷ []) d.nodes d.roots → d ≡ c
one_form s c root is one back h start also d d_is keeps =
    let same : HaveAlikeWalks d c = record {
      count = keeps.count ∙ sym (ap length one);
      walks = record {
        shown = λ w. keeps.shown w ∙ sym (same_shown s c.nodes root h start back also w) ∙ ap (λ (roots : List ℕ). walk_shows c.nodes roots w) (sym one);
        together = λ w v. (
          λ t. together c is w v (subst (λ (roots : List ℕ). EndAlike c.nodes roots w v) (sym one) (same_alike s h start c.nodes root also back w v ((keeps.alike w v).0 (alike d.nodes d.roots w v t)))),
          λ t. together d d_is w v ((keeps.alike w v).1 (same_alike s c.nodes root h start back also w v (subst (λ (roots : List ℕ). EndAlike c.nodes roots w v) one (alike c.nodes c.roots w v t)))),
        );
      };
    } in
    (one_form_of_walks d c d_is is).1 same

-- two solutions of one system have the same walks
pub solutions_keep_walks : SolutionsKeepWalks
solutions_keep_walks s g h root start is also = record {
  count = refl;
  shown = same_shown s h start g root also is;
  alike = λ w v. (same_alike s h start g root also is w v, same_alike s g root h start is also w v);
}
