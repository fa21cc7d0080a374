use Rattle.std.proofs.Common.{refl}
use Rattle.mars_rows.proofs.laws.examples.Goals as goal

pub returns : goal.returns
returns c = record {
  loop_again = refl;
  loop_counts = refl;
  first_number = refl;
  inner_number = refl;
  inner_counts = refl;
  too_many = refl;
  nothing_swept = refl;
  loop_swept = refl;
  next_number = refl;
}
