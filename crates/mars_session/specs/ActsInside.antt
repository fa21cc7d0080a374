-- What the code finds of a command.
use Rattle.std.specs.Prelude.{List, Option}
use Rattle.std.specs.Option.{option_map}
use Rattle.mars_session.specs.declared.named.Named.{Named}
use Rattle.mars_session.specs.declared.acts.Act.{Act}
use Rattle.mars_session.specs.declared.acts.Act.TheVariants as act
use Rattle.mars_session.specs.declared.acts.Latest.{Latest}
use Rattle.mars_session.specs.SessionPoints.{LatestAsk}
use Rattle.mars_session.specs.CommandActs.{TableUse, CommandAct, Writes, Uses}
use Rattle.mars_session.specs.WishesInside.{IsWish}

-- what was found is one of the acts that a command may have
abbrev pub IsAct : List Named → (CommandAct → Type 0) → Act → Type 0
IsAct names May (act.Writes line) = May (Writes line.items)
IsAct names May (act.Uses wish) = (wanted : TableUse) × May (Uses wanted) × IsWish names wish wanted

-- the latest ask, as the code keeps it
abbrev pub latest_seen : Latest → LatestAsk
latest_seen latest = record { vars = latest.vars.now; answer = option_map (λ a. a.canon) latest.answer }

abbrev pub latest_of : Option Latest → Option LatestAsk
latest_of latest = option_map latest_seen latest
