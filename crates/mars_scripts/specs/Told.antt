-- What the code's maker has been told, as the definitions see it.
use Rattle.mars_clauses.specs.Made.{clause_of}
use Rattle.mars_scripts.specs.declared.scripts.ScriptMaker.{ScriptMaker}
use Rattle.mars_scripts.specs.Scripts.{Scripts}

abbrev pub scripts_of : ScriptMaker → Scripts
scripts_of s = record {
  version = s.version;
  rules = s.rules;
  sessions = s.sessions;
  session = s.session;
  word = s.word;
  before = s.before;
  last = s.last;
  clause = clause_of s.clause;
  tree = s.tree;
}
