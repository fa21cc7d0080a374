use Rattle.mars_script.proofs.Exact.{said_read, said_refused}
use Rattle.mars_script.proofs.reading.read_words.Goals as goal

pub returns-clause-read : goal.returns-clause-read
returns-clause-read c = said_read _ c.read_list.result c.read_list.ensures

pub returns-clause-refused : goal.returns-clause-refused
returns-clause-refused c = said_refused _ c.read_list.result c.read_list.ensures
