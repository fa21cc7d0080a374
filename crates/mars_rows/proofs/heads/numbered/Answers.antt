use Rattle.std.proofs.Common.{◌≡◌, ℕ, ◌+◌, [], ◌∷◌, ◌++◌, map, ap, sym, ◌∙◌, arith}
use Rattle.std.specs.List.{range_with_len}
use Rattle.std.proofs.lemmas.List.{map-append}
use Rattle.mars_comp.specs.Components.{component_of}
use Rattle.mars_rows.proofs.FreshRows.{range_more}
use Rattle.mars_rows.proofs.heads.numbered.Goals as goal

pub loop-node-preserved : goal.loop-node-preserved
loop-node-preserved c =
    let parts = c.args.parts.now in
    let n = c.loop-node.node in
    let f : ℕ → ℕ × ℕ = λ n. (component_of parts n, n) in
    let zero_n : 0 + n ≡ n = omega arith in
    c.in_ok-push.ensures.items ∙ ap (λ xs. xs ++ (c.of.result, n) ∷ []) c.loop-node.invariant ∙ ap (λ k. map f (range_with_len 0 n) ++ (k, n) ∷ []) c.of.ensures
    ∙ sym (ap (map f) (range_more 0 n ∙ ap (λ x. range_with_len 0 n ++ x ∷ []) zero_n) ∙ map-append f (range_with_len 0 n) (n ∷ []))
