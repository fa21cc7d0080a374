use mir.Val.{SFits}
use Rattle.std.proofs.Common.{w64, rules}
use Rattle.std.proofs.lemmas.Int.{to_z-of_z}
use Rattle.mars_val.proofs.Numbers.{number-over}
use Rattle.mars_val.proofs.direct.over_operands.Goals as goal

pub returns : goal.returns
returns c =
    let x = c.in_ok-operand_number.field-0 in
    let y = c.in_ok-operand_number-2.field-0 in
    let fits-x : SFits w64 x = search rules in
    let fits-y : SFits w64 y = search rules in
    let result = rw (to_z-of_z w64 x fits-x, to_z-of_z w64 y fits-y) at c.compute.ensures in
    number-over c.args.store.now c.args.node c.operands-left.result.0 c.operands-left.result.1 c.args.operation c.compute.result x y c.requires.label c.operands-left.ensures.kids c.in_ok-operand_number.ensures c.in_ok-operand_number-2.ensures result
