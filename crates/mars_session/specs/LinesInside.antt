-- What the writers of lines ask for.
use Rattle.std.specs.Prelude.{◌≡◌, ⊤, List, length}
use Rattle.mars_tree.specs.declared.label.NameId.{NameId}
use Rattle.mars_machine.specs.declared.stepped.Stepped.{Stepped}
use Rattle.mars_machine.specs.declared.stepped.Stepped.TheVariants.{Went, Said, SaidText, Answered, Ended}

-- what is told can be written: a tree has one root, and an answer has as many variables as the ask
abbrev pub CanBeWritten : List NameId → Stepped → Type 0
CanBeWritten vars Went = ⊤
CanBeWritten vars (Said c) = length c.roots ≡ 1
CanBeWritten vars (SaidText string) = ⊤
CanBeWritten vars (Answered a) = a.vars ≡ length vars
CanBeWritten vars Ended = ⊤
