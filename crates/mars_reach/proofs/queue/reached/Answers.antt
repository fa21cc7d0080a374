use Rattle.std.proofs.Common.{◌≡◌, ◌<◌, List, ℕ, [], length, All, sym, subst, ap, ◌∙◌, arith, append-nil}
use Rattle.std.proofs.lemmas.List.Elements.{All-nil}
use Rattle.mars_tree.specs.Graph.{kids_of}
use Rattle.mars_reach.specs.Order.{met_after, IsReached}
use Rattle.mars_reach.proofs.Ordering.{queue_more}
use Rattle.mars_reach.proofs.Numbers.{All-met, All-slice_get, distinct_count}
use Rattle.mars_reach.proofs.Queues.{queue_closed, roots_met}
use Rattle.mars_reach.proofs.Walked.{roots_reached, kids_reached, reach_done}
use Rattle.mars_reach.proofs.queue.reached.Goals as goal

pub loop-next-init : goal.loop-next-init
loop-next-init c =
    let g = c.args.graph.now in
    let roots = c.args.roots.now in
    let start : c.meet_all.new.self ≡ met_after [] roots = c.in_ok-meet_all.ensures ∙ ap (λ xs. met_after xs roots) c.new-order.ensures in
    record {
      within = omega arith;
      met = ap (met_after []) (append-nil roots) ∙ sym start;
      early = λ i lt. absurd (omega (arith, lt));
      in_range = subst (All (λ n. n < length g)) (sym start) (All-met (λ n. n < length g) [] roots (All-nil (λ n. n < length g)) c.requires);
      reached = subst (All (IsReached g roots)) (sym start) (All-met (IsReached g roots) [] roots (All-nil (IsReached g roots)) (roots_reached g roots));
    }

pub loop-next-smaller : goal.loop-next-smaller
loop-next-smaller c =
    let i = c.loop-next.invariant in
    omega (arith, distinct_count c.loop-next.order (length c.args.graph.now) c.len.ensures.distinct i.in_range, c.len.ensures.len)

pub loop-next-preserved : goal.loop-next-preserved
loop-next-preserved c =
    let i = c.loop-next.invariant in
    let g = c.args.graph.now in
    let roots = c.args.roots.now in
    let order = c.loop-next.order in
    let kids : List ℕ = kids_of g c.get.result in
    let e : c.meet_all-in-loop-next.new.self ≡ met_after order kids = c.in_ok-meet_all-2.ensures ∙ ap (met_after order) c.kids.ensures.kids in
    let s = queue_more (kids_of g) roots order c.meet_all-in-loop-next.new.self c.loop-next.next c.get.result c.get.ensures i.met i.early e in
    record {
      within = s.within;
      met = s.met;
      early = s.early;
      in_range = subst (All (λ n. n < length g)) (sym e) (All-met (λ n. n < length g) order kids i.in_range (subst (All (λ n. n < length g)) c.kids.ensures.kids c.kids.ensures.in_range));
      reached = subst (All (IsReached g roots)) (sym e) (All-met (IsReached g roots) order kids i.reached
          (kids_reached g roots c.get.result (All-slice_get (IsReached g roots) order c.loop-next.next c.get.result i.reached c.get.ensures)));
    }

pub returns : goal.returns
returns c =
    let i = c.loop-next.invariant in
    let g = c.args.graph.now in
    let roots = c.args.roots.now in
    let order = c.loop-next.order in
    let reach = reach_done g roots c.loop-next.next order i.within (omega (arith, c.len.ensures.len)) c.len.ensures.distinct i.met i.early i.in_range i.reached in
    record { reach = reach; roots_in = roots_met g roots order reach.queue; closed = queue_closed g roots order reach.queue }
