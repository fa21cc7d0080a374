use Rattle.std.proofs.Common.{◌≡◌, drop}
use Rattle.mars_grammar.specs.Rows.{borrowed_rows, first_row}
use Rattle.mars_forms.specs.Table as told
use Rattle.mars_forms.proofs.table.first_row.Given as goal

abbrev pub invariant-loop-trigger : goal.invariant-loop-trigger
invariant-loop-trigger l = first_row (λ trigger. told.begins l.two trigger l.kind) (borrowed_rows l.rows) ≡ first_row (λ trigger. told.begins l.two trigger l.kind) (borrowed_rows (drop l.trigger-index l.rows))
