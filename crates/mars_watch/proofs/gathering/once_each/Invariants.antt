use Rattle.mars_watch.proofs.Touching.{IsOnce}
use Rattle.mars_watch.proofs.gathering.once_each.Given as goal

-- the places so far, each once; the next one is past the last of them
abbrev pub invariant-loop-place : goal.invariant-loop-place
invariant-loop-place l = IsOnce l.size l.found l.place-index l.places.items l.next
