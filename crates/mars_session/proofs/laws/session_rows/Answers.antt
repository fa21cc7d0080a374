use Rattle.mars_session.proofs.RowLemmas.{session_rows}
use Rattle.mars_session.proofs.laws.session_rows.Goals as goal

pub returns : goal.returns
returns c = session_rows
