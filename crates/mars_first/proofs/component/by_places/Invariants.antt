use Rattle.std.proofs.Common.{◌≡◌, length}
use Rattle.mars_first.specs.ComponentInside.{IsComponentOf}
use Rattle.mars_first.proofs.component.by_places.Given as goal

abbrev pub invariant-loop-place : goal.invariant-loop-place
invariant-loop-place l = record {
  is : IsComponentOf l.graph l.parts l.outside l.starts l.component;
  count : length l.component.places.numbers.items ≡ l.place;
}
