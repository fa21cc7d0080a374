use Rattle.std.proofs.Common.{◌<◌, ◌++◌, ◌∷◌, [], ℕ, List, take, ap, sym, ◌∙◌, arith}
use Rattle.std.proofs.lemmas.List.{take_more, take_all}
use Rattle.std.proofs.lemmas.List.Elements.{All-get_or}
use Rattle.mars_refine.specs.Chains.{Keyed}
use Rattle.mars_refine.proofs.marks.chained.Goals as goal

pub push-requires : goal.push-requires
push-requires c =
    omega (arith, All-get_or (λ n. n < c.args.size) c.args.numbers.now.items c.loop-node.node 0 (omega (arith, c.loop-node-test.true, c.len-node-end.ensures.len)) c.requires, c.get.ensures, ap (λ (k : Keyed). k.size) c.loop-node.invariant)

pub loop-node-preserved : goal.loop-node-preserved
loop-node-preserved c =
    let all : List ℕ = c.args.numbers.now.items in
    let more : Keyed → ℕ → Keyed = λ k key. record { size = k.size; keys = k.keys ++ key ∷ [] } in
    let keyed : List ℕ → Keyed = λ keys. record { size = c.args.size; keys = keys } in
    c.in_ok-push.ensures ∙ ap (λ (k : Keyed). more k c.get.result) c.loop-node.invariant ∙ ap (more (keyed (take c.loop-node.node all))) c.get.ensures
    ∙ ap keyed (sym (take_more all c.loop-node.node 0 (omega (arith, c.loop-node-test.true, c.len-node-end.ensures.len))))

pub returns : goal.returns
returns c =
    let keyed : List ℕ → Keyed = λ keys. record { size = c.args.size; keys = keys } in
    c.loop-node.invariant ∙ ap keyed (take_all c.loop-node.node c.args.numbers.now.items (omega (arith, c.loop-node-test.false, c.len-node-end.ensures.len)))
