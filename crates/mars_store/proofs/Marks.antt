-- Marks while a store grows and is undone.
use Rattle.std.proofs.Common.{◌≡◌, ◌⊎◌, ℕ, ◌+◌, ◌<◌, ◌≤◌, List, [], ◌∷◌, ◌++◌, length, take, get_or, refl, sym, ap, ap₂, ◌∙◌, arith, inl, inr, length-append}
use Rattle.std.proofs.lemmas.Bool.{cases_lt}
use Rattle.std.proofs.lemmas.List.{take-take, take_all, take-append-le, length-take-le, get_or_append_left, get_or_at}
use Rattle.std.proofs.lemmas.List.Elements.{All-weaker, All-push, All-get_or, All-from_get_or}
use Rattle.mars_tree.specs.Graph.{Node}
use Rattle.mars_store.specs.declared.mark.Mark.{Mark}
use Rattle.mars_store.specs.System.{System, IsSystem, IsMark, IsLink, Grows, mark_of, undone, linked, with_node, equation_of}
use Rattle.mars_store.specs.Marks.{IsWithin, AreMarks, MarkMade, MarkKept, MarksNest}

front-take : {X : Type 0} (n : ℕ) (old new : List X) → n ≤ length old → take (length old) new ≡ old → take n new ≡ take n old
front-take n old new h e = sym (take-take n (length old) new h) ∙ ap (take n) e

pub mark_kept : MarkKept
mark_kept old new mark g m =
    let gn = g.more_nodes in let gb = g.more_bound in let mn = m.nodes in let mb = m.bound in
    let nodes : take mark.nodes new.nodes ≡ take mark.nodes old.nodes = front-take mark.nodes old.nodes new.nodes mn g.nodes in
    let bound : take mark.bound new.bound ≡ take mark.bound old.bound = front-take mark.bound old.bound new.bound mb g.bound in (
      record {
        nodes = omega arith;
        bound = omega arith;
        inside = rw bound m.inside;
      },
      ap₂ (λ ns bs. record { nodes = ns; bound = bs }) nodes bound,
    )

pub mark_made : MarkMade
mark_made old sound = (
  record {
    nodes = omega arith;
    bound = omega arith;
    inside = rw (take_all (length old.bound) old.bound (omega arith))
        (All-weaker (IsLink old.nodes) (λ q. (q.0 < length old.nodes) × (q.1 < length old.nodes)) (λ q l. (l.variable.inside, l.inside)) old.bound sound.links);
  },
  rw (take_all (length old.nodes) old.nodes (omega arith), take_all (length old.bound) old.bound (omega arith)) refl,
)

pub marks_nested : MarksNest
marks_nested system outer inner mo mi w =
    let on = mo.nodes in let ob = mo.bound in let in_n = mi.nodes in let in_b = mi.bound in let wn = w.nodes in let wb = w.bound in
    let nodes : take outer.nodes (take inner.nodes system.nodes) ≡ take outer.nodes system.nodes = take-take outer.nodes inner.nodes system.nodes wn in
    let bound : take outer.bound (take inner.bound system.bound) ≡ take outer.bound system.bound = take-take outer.bound inner.bound system.bound wb in (
      record {
        nodes = rw (length-take-le inner.nodes system.nodes in_n) wn;
        bound = rw (length-take-le inner.bound system.bound in_b) wb;
        inside = rw bound mo.inside;
      },
      ap₂ (λ ns bs. record { nodes = ns; bound = bs }) nodes bound,
    )

pub grows-refl : (system : System) → Grows system system
grows-refl system = record {
  more_nodes = omega arith;
  nodes = take_all (length system.nodes) system.nodes (omega arith);
  more_bound = omega arith;
  bound = take_all (length system.bound) system.bound (omega arith);
}

pub grows-trans : (a b c : System) → Grows a b → Grows b c → Grows a c
grows-trans a b c f g =
    let fn_size = f.more_nodes in let fb = f.more_bound in let gn = g.more_nodes in let gb = g.more_bound in
    record {
      more_nodes = omega arith;
      nodes = front-take (length a.nodes) b.nodes c.nodes fn_size g.nodes ∙ f.nodes;
      more_bound = omega arith;
      bound = front-take (length a.bound) b.bound c.bound fb g.bound ∙ f.bound;
    }

pub grows-linked : (system : System) (x y : ℕ) → Grows system (linked system x y)
grows-linked system x y = record {
  more_nodes = omega arith;
  nodes = take_all (length system.nodes) system.nodes (omega arith);
  more_bound = omega (arith, length-append system.bound (equation_of system.nodes x y ∷ []));
  bound = take-append-le (length system.bound) system.bound (equation_of system.nodes x y ∷ []) (omega arith) ∙ take_all (length system.bound) system.bound (omega arith);
}

pub grows-node : (system : System) (node : Node) → Grows system (with_node system node)
grows-node system node = record {
  more_nodes = omega (arith, length-append system.nodes (node ∷ []));
  nodes = take-append-le (length system.nodes) system.nodes (node ∷ []) (omega arith) ∙ take_all (length system.nodes) system.nodes (omega arith);
  more_bound = omega arith;
  bound = take_all (length system.bound) system.bound (omega arith);
}

-- every mark of a store is an outer one of its present state
pub within-present : (system : System) (mark : Mark) → IsMark system mark → IsWithin mark (mark_of system)
within-present system mark m = record { nodes = m.nodes; bound = m.bound }

within-refl : (mark : Mark) → IsWithin mark mark
within-refl mark = record { nodes = omega arith; bound = omega arith }

-- the mark of the present state is one more
pub marks-push : (system : System) (marks : List Mark) (mark : Mark) → IsSystem system → AreMarks system marks → mark ≡ mark_of system
    → AreMarks system (marks ++ mark ∷ [])
marks-push system marks mark sound are e =
    let size = length-append marks (mark ∷ []) in
    record {
      made = All-push (IsMark system) marks mark are.made (rw e (mark_made system sound).0);
      nested = λ i j d h w. go i j d h (omega arith) (cases_lt j (length marks)) (cases_lt i (length marks));
    }
  where
    go : (i j : ℕ) (d : Mark) → i ≤ j → j < length marks + 1 → (j < length marks) ⊎ (length marks ≤ j) → (i < length marks) ⊎ (length marks ≤ i)
        → IsWithin (get_or (marks ++ mark ∷ []) i d) (get_or (marks ++ mark ∷ []) j d)
    go i j d h w (inl k) c =
        rw (get_or_append_left marks (mark ∷ []) d i (omega arith), get_or_append_left marks (mark ∷ []) d j k) (are.nested i j d h k)
    go i j d h w (inr k) (inl l) =
        rw (get_or_append_left marks (mark ∷ []) d i l, get_or_at marks mark [] d j (omega arith), e)
        (within-present system (get_or marks i d) (All-get_or (IsMark system) marks i d l are.made))
    go i j d h w (inr k) (inr l) =
        rw (get_or_at marks mark [] d j (omega arith), get_or_at marks mark [] d i (omega arith)) (within-refl mark)

-- they stay as the store grows
pub marks-kept : (old new : System) (marks : List Mark) → Grows old new → AreMarks old marks → AreMarks new marks
marks-kept old new marks g are = record {
  made = All-weaker (IsMark old) (IsMark new) (λ mark m. (mark_kept old new mark g m).0) marks are.made;
  nested = are.nested;
}

-- the last mark can be undone to, and those before it serve on
pub marks-pop : (system : System) (marks rest : List Mark) (mark : Mark) → AreMarks system marks → marks ≡ rest ++ mark ∷ []
    → IsMark system mark × AreMarks (undone system mark) rest
marks-pop system marks rest mark are e =
    let all : AreMarks system (rest ++ mark ∷ []) = rw e at are in
    let size = length-append rest (mark ∷ []) in
    let last : IsMark system mark = rw (get_or_at rest mark [] mark (length rest) refl) at (All-get_or (IsMark system) (rest ++ mark ∷ []) (length rest) mark (omega arith) all.made) in (
      last,
      record {
        made = All-from_get_or (IsMark (undone system mark)) rest mark (λ i h.
            let outer = rw (get_or_append_left rest (mark ∷ []) mark i h) at (All-get_or (IsMark system) (rest ++ mark ∷ []) i mark (omega arith) all.made) in
            let within = rw (get_or_append_left rest (mark ∷ []) mark i h, get_or_at rest mark [] mark (length rest) refl) at (all.nested i (length rest) mark (omega arith) (omega arith)) in
            (marks_nested system (get_or rest i mark) mark outer last within).0);
        nested = λ i j d h w.
            rw (get_or_append_left rest (mark ∷ []) d i (omega arith), get_or_append_left rest (mark ∷ []) d j w) at (all.nested i j d h (omega arith));
      },
    )
