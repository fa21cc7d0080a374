-- The run of a world is that of an input in an order; what sessions give side by side is a live run.
use Rattle.std.proofs.Common.{◌≡◌, ◌<◌, ℕ, List, length, map, Bool, true, false, refl, sym, subst, ◌∙◌}
use Rattle.std.specs.Prelude.{All}
use Rattle.std.proofs.lemmas.List.{length-map}
use Rattle.mars_script.specs.declared.script.Input.{Input}
use Rattle.mars_script.specs.declared.words.Options.{Options}
use Rattle.mars_table.specs.declared.entry.Entry.{Entry}
use Rattle.mars_table.specs.HistoryLaws.{LegalIsLive}
use Rattle.mars_session.specs.SessionPoints.{session_parts}
use Rattle.mars_session.specs.SessionSeen.{started_session}
use Rattle.mars_replay.specs.WorldSeen.{WorldSeen, input_world}
use Rattle.mars_replay.specs.WorldRuns.{GivesRunOf}
use Rattle.mars_replay.proofs.Starting.{parts_count}
use Rattle.mars_gate.specs.CutRuns.{GivesCutRunOf}
use Rattle.marseille.specs.Ran.{IsRunInOrder, IsRunTogether}

pub run_in_order : (input : Input) (options : Options) (order : List ℕ) (cut : Bool) (history : List Entry) (text : List ℕ) → GivesRunOf input options order history text cut → IsRunInOrder input options order cut history text
run_in_order input options order false history text gives = gives.scheduled refl
run_in_order input options order true history text gives = record { cuts = gives.cuts; runs = gives.runs; cut = gives.tells.0 refl }

pub run_together : LegalIsLive → (input : Input) (options : Options) (cut : Bool) (history : List Entry) (text : List ℕ) → GivesCutRunOf input options history text cut → IsRunTogether input options cut history text
run_together live input options false history text gives = let whole = gives.whole refl in record { whole = whole; live = live options.rows history whole.legal }
run_together live input options true history text gives = record { cuts = gives.cuts; runs = gives.runs; cut = gives.tells.0 refl }

-- an order that names the sessions of an input names those of its world
pub names_in_world : (input : Input) (options : Options) (order : List ℕ) (w : WorldSeen) → w ≡ input_world input options → All (λ who. who < length input.sessions) order → All (λ who. who < length w.sessions) order
names_in_world input options order w is named =
    let count : length (map started_session (session_parts input options)) ≡ length input.sessions = length-map (session_parts input options) started_session ∙ parts_count input options 0 input.sessions in
    subst (λ (v : WorldSeen). All (λ who. who < length v.sessions) order) (sym is) (subst (λ (n : ℕ). All (λ who. who < n) order) (sym count) named)
