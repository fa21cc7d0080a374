-- What the meeting of one pair does.
use Rattle.std.proofs.Common.{◌≡◌, ◌↔◌, ◌≢◌, ℕ, List, [], length, take, All, Option, Some, None, refl, sym, ap, ◌∙◌, subst, arith}
use Rattle.std.proofs.lemmas.List.{take_all, take-take, nil_from_length}
use Rattle.std.proofs.lemmas.List.Elements.{All-contains, All-take}
use Rattle.mars_tree.specs.declared.label.Label.{Label}
use Rattle.mars_tree.specs.Label.{arity_of}
use Rattle.mars_tree.specs.Graph.{label_of, kids_of, arity_at}
use Rattle.mars_store.specs.Valuation.{Valuation, value, Agree}
use Rattle.mars_store.specs.System.{System, IsSystem, IsUnbound, resolve, linked}
use Rattle.mars_store.specs.Solutions.{InSol, over}
use Rattle.mars_store.specs.Laws.{IsImplied}
use Rattle.mars_store.proofs.CallerLemmas.{equation_solved, grows-linked, resolve-unbound, solution-last, same-label}
use Rattle.mars_unify.specs.MetInside.{with_pair}
use Rattle.mars_unify.specs.MeetingInside.{SameAt, AreSame, IsCovered, IsSettled, AreAlike, AreMet, IsMeeting}
use Rattle.mars_unify.specs.Unified.{AreApart}
use Rattle.mars_unify.proofs.Lists.{with_pair-front, with_pair-contains, with_pair-All, with_pair-distinct}

-- in a solution each node agrees with the end of its links
pub agree-end : (s : System) (v : Valuation) → InSol s v → (n : ℕ) → Agree v n (resolve s.bound n)
agree-end s v sol n = record { along = λ path. solution-last v s.bound sol.bound n path }

agree-sym : (v : Valuation) (x y : ℕ) → Agree v x y → Agree v y x
agree-sym v x y h = record { along = λ path. sym (h.along path) }

agree-trans : (v : Valuation) (x y z : ℕ) → Agree v x y → Agree v y z → Agree v x z
agree-trans v x y z h k = record { along = λ path. h.along path ∙ k.along path }

-- the ends of a pair that is the same
ends-agree : (s : System) (v : Valuation) → InSol s v → (a b : ℕ) → Agree v a b → Agree v (resolve s.bound a) (resolve s.bound b)
ends-agree s v sol a b h =
    agree-trans v _ a _ (agree-sym v a _ (agree-end s v sol a)) (agree-trans v a b _ h (agree-end s v sol b))

agree-ends : (s : System) (v : Valuation) → InSol s v → (a b : ℕ) → Agree v (resolve s.bound a) (resolve s.bound b) → Agree v a b
agree-ends s v sol a b h =
    agree-trans v a _ b (agree-end s v sol a) (agree-trans v _ _ b h (agree-sym v b _ (agree-end s v sol b)))

-- a pair that is implied equal is covered
covered-implied : (s : System) (met : List (ℕ × ℕ)) (a b : ℕ) → IsImplied s a b → IsCovered s met (a, b)
covered-implied s met a b h v sol path all = (h v sol).along path

-- nothing was added
pub meeting-none : (s : System) (met : List (ℕ × ℕ)) (p : ℕ × ℕ) → IsSystem s → AreMet s.nodes met → IsMeeting s s met met p
meeting-none s met p sound m = record {
  nodes = refl;
  size = omega arith;
  front = take_all (length s.bound) s.bound (omega arith);
  system = sound;
  only = λ v sol. sol;
  all = λ v sol same. sol;
  same = λ v sol same all. all;
  met_size = omega arith;
  met_front = take_all (length met) met (omega arith);
  met = m;
}

-- what follows from what follows from the pair
pub meeting-then : (a b c : System) (one two three : List (ℕ × ℕ)) (p q : ℕ × ℕ) → IsMeeting a b one two p → IsMeeting b c two three q
    → ((v : Valuation) → InSol a v → AreSame v p → AreSame v q) → IsMeeting a c one three p
meeting-then a b c one two three p q f g then =
    let fs = f.size in let gs = g.size in let fm = f.met_size in let gm = g.met_size in
    record {
      nodes = g.nodes ∙ f.nodes;
      size = omega arith;
      front = sym (take-take (length a.bound) (length b.bound) c.bound fs) ∙ ap (take (length a.bound)) g.front ∙ f.front;
      system = g.system;
      only = λ v sol. f.only v (g.only v sol);
      all = λ v sol same. g.all v (f.all v sol same) (then v sol same);
      same = λ v sol same all. g.same v (f.all v sol same) (then v sol same) (f.same v sol same all);
      met_size = omega arith;
      met_front = sym (take-take (length one) (length two) three fm) ∙ ap (take (length one)) g.met_front ∙ f.met_front;
      met = g.met;
    }

-- a covered pair stays covered
pub covered-kept : (s t : System) (met after : List (ℕ × ℕ)) (p : ℕ × ℕ) → ((v : Valuation) → InSol t v → InSol s v)
    → take (length met) after ≡ met → IsCovered s met p → IsCovered t after p
covered-kept s t met after p only front covered v sol path all =
    covered v (only v sol) path (subst (All (SameAt v path)) front (All-take (SameAt v path) (length met) after all))

-- a settled pair stays settled
pub settled-kept : (s t : System) (met after : List (ℕ × ℕ)) (p : ℕ × ℕ) → ((v : Valuation) → InSol t v → InSol s v)
    → take (length met) after ≡ met → IsSettled s met p → IsSettled t after p
settled-kept s t met after p only front k = record {
  root = λ v sol. k.root v (only v sol);
  below = λ v sol place path all.
      k.below v (only v sol) place path (subst (All (SameAt v path)) front (All-take (SameAt v path) (length met) after all));
}

-- the pair has one end
pub met-same : (s : System) (met : List (ℕ × ℕ)) (a b x y : ℕ) → x ≡ resolve s.bound a → y ≡ resolve s.bound b → IsSystem s → AreMet s.nodes met → x ≡ y
    → IsMeeting s s met met (a, b) × IsCovered s met (a, b)
met-same s met a b x y p q sound m e = (
  meeting-none s met (a, b) sound m,
  covered-implied s met a b (λ v sol. agree-ends s v sol a b (record { along = λ path. ap (λ n. value v n path) (sym p ∙ e ∙ q) })),
)

-- an equation is added that is solved just where the ends have the same tree
meeting-equation : (s : System) (met : List (ℕ × ℕ)) (a b x y : ℕ) → IsSystem (linked s x y) → AreMet s.nodes met
    → ((v : Valuation) → Agree v (resolve s.bound a) (resolve s.bound b) ↔ Agree v x y)
    → IsMeeting s (linked s x y) met met (a, b) × IsCovered (linked s x y) met (a, b)
meeting-equation s met a b x y sound m ends = (
  record {
    nodes = refl;
    size = (grows-linked s x y).more_bound;
    front = (grows-linked s x y).bound;
    system = sound;
    only = λ v sol. ((equation_solved s x y v).0 sol).0;
    all = λ v sol same. (equation_solved s x y v).1 (sol, (ends v).0 (ends-agree s v sol a b same));
    same = λ v sol same all. all;
    met_size = omega arith;
    met_front = take_all (length met) met (omega arith);
    met = m;
  },
  covered-implied (linked s x y) met a b (λ v sol.
      let was = (equation_solved s x y v).0 sol in agree-ends s v was.0 a b ((ends v).1 was.1)),
)

-- the end of the first was bound, or that of the second
pub met-bound : (s t : System) (met : List (ℕ × ℕ)) (a b x y : ℕ) → x ≡ resolve s.bound a → y ≡ resolve s.bound b → IsUnbound s.bound y
    → IsSystem t → AreMet s.nodes met → t ≡ linked s x (resolve s.bound y) → IsMeeting s t met met (a, b) × IsCovered t met (a, b)
met-bound s t met a b x y p q hy sound m e =
    let e' : t ≡ linked s x y = e ∙ ap (linked s x) (resolve-unbound s.bound y hy) in
    rw e' (meeting-equation s met a b x y (rw e' at sound) m (λ v. (λ h. rw (p, q) h, λ h. rw (p, q) at h)))

pub met-bound_back : (s t : System) (met : List (ℕ × ℕ)) (a b x y : ℕ) → x ≡ resolve s.bound a → y ≡ resolve s.bound b → IsUnbound s.bound x
    → IsSystem t → AreMet s.nodes met → t ≡ linked s y (resolve s.bound x) → IsMeeting s t met met (a, b) × IsCovered t met (a, b)
met-bound_back s t met a b x y p q hx sound m e =
    let e' : t ≡ linked s y x = e ∙ ap (linked s y) (resolve-unbound s.bound x hx) in
    rw e' (meeting-equation s met a b y x (rw e' at sound) m (λ v. (λ h. rw (p, q) (agree-sym v _ _ h), λ h. agree-sym v _ _ (rw (p, q) at h))))

-- the label of an end
end-label : (s : System) (x : ℕ) (o : Option Label) → IsUnbound s.bound x → o ≡ label_of s.nodes (resolve s.bound x) → label_of s.nodes x ≡ o
end-label s x o u e = ap (label_of s.nodes) (sym (resolve-unbound s.bound x u)) ∙ sym e

pub free-end : (s : System) (x : ℕ) → IsUnbound s.bound x → None ≡ label_of s.nodes (resolve s.bound x) → label_of s.nodes x ≡ None
free-end s x u e = end-label s x None u e

-- two ends with different labels
pub met-apart : (s : System) (a b x y : ℕ) (l r : Label) → x ≡ resolve s.bound a → y ≡ resolve s.bound b → IsUnbound s.bound x → IsUnbound s.bound y
    → Some l ≡ label_of s.nodes (resolve s.bound x) → Some r ≡ label_of s.nodes (resolve s.bound y) → l ≢ r → AreApart s a b
met-apart s a b x y l r p q hx hy ex ey ne v sol h =
    let same : Agree v x y = rw (p, q) (ends-agree s v sol a b h) in
    ne (same-label l r (sym (sol.labelled x l (end-label s x (Some l) hx ex) []) ∙ same.along [] ∙ sol.labelled y r (end-label s y (Some r) hy ey) []))

-- two ends with one label, and kids
pub met-pair : (s : System) (met after : List (ℕ × ℕ)) (a b x y : ℕ) (l r : Label) → x ≡ resolve s.bound a → y ≡ resolve s.bound b → IsUnbound s.bound x → IsUnbound s.bound y
    → IsSystem s → AreMet s.nodes met
    → Some l ≡ label_of s.nodes (resolve s.bound x) → Some r ≡ label_of s.nodes (resolve s.bound y) → l ≡ r
    → after ≡ with_pair met (x, y) → IsMeeting s s met after (a, b) × IsCovered s after (a, b)
met-pair s met after a b x y l r p q hx hy sound m ex ey e w = rw w (
  record {
    nodes = refl;
    size = omega arith;
    front = take_all (length s.bound) s.bound (omega arith);
    system = sound;
    only = λ v sol. sol;
    all = λ v sol same. sol;
    same = λ v sol same all. with_pair-All (AreSame v) met (x, y) all (rw (p, q) (ends-agree s v sol a b same));
    met_size = (with_pair-front met (x, y)).size;
    met_front = (with_pair-front met (x, y)).front;
    met = record {
      alike = with_pair-All (AreAlike s.nodes) met (x, y) m.alike
          (record { label = l; left = end-label s x (Some l) hx ex; right = end-label s y (Some r) hy ey ∙ ap Some (sym e) });
      once = with_pair-distinct met (x, y) m.once;
    };
  },
  λ v sol path all.
      (agree-end s v sol a).along path ∙ ap (λ n. value v n path) (sym p)
      ∙ All-contains (SameAt v path) (with_pair met (x, y)) (x, y) all (with_pair-contains met (x, y))
      ∙ ap (λ n. value v n path) q ∙ sym ((agree-end s v sol b).along path),
)

-- two ends with one label, and no kids
pub met-leaf : (s : System) (met : List (ℕ × ℕ)) (a b x y : ℕ) (l r : Label) → x ≡ resolve s.bound a → y ≡ resolve s.bound b → IsUnbound s.bound x → IsUnbound s.bound y
    → IsSystem s → AreMet s.nodes met
    → Some l ≡ label_of s.nodes (resolve s.bound x) → Some r ≡ label_of s.nodes (resolve s.bound y) → l ≡ r
    → arity_of l ≡ 0 → IsMeeting s s met met (a, b) × IsCovered s met (a, b)
met-leaf s met a b x y l r p q hx hy sound m ex ey e none = (
  meeting-none s met (a, b) sound m,
  covered-implied s met a b (λ v sol. agree-ends s v sol a b (rw (← p, ← q) (record {
    along = λ path.
        leaf v sol x l (end-label s x (Some l) hx ex) none path
        ∙ ap (λ k. over k [] (value v) path) e
        ∙ sym (leaf v sol y r (end-label s y (Some r) hy ey) (ap arity_of (sym e) ∙ none) path);
  }))),
)
  where
    leaf : (v : Valuation) → InSol s v → (n : ℕ) (k : Label) → label_of s.nodes n ≡ Some k → arity_of k ≡ 0 → (path : List ℕ) → value v n path ≡ over k [] (value v) path
    leaf v sol n k is arity path =
        sol.labelled n k is path ∙ ap (λ ks. over k ks (value v) path) (nil_from_length (kids_of s.nodes n) ((sound.older n).kids ∙ ap arity_at is ∙ arity))
