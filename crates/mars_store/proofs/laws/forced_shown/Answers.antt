use Rattle.mars_store.proofs.Shown.{labels_shown, leaves_shown}
use Rattle.mars_store.proofs.laws.forced_shown.Goals as goal

pub returns : goal.returns
returns c = record { labels = labels_shown; leaves = leaves_shown }
