-- The two forms of a list of numbers.
use Rattle.std.specs.Prelude.{◌-◌, ◌^◌}
use Rattle.mars_base.specs.Numbers.{NumberList}
use Rattle.mars_base.specs.declared.numbers.Form.{Form}
use Rattle.mars_base.specs.declared.numbers.Form.TheVariants.{Narrow, Wide}

-- what contracts see of a form
abbrev pub number_list : Form → NumberList
number_list (Narrow all) = record { items = all.items; most = 2 ^ 32 - 1 }
number_list (Wide all) = record { items = all.items; most = 2 ^ 64 - 1 }
