-- States of frozen pairs, and how they are undone.
use Rattle.std.proofs.Common.{◌≡◌, length, take, refl, ap, ◌∙◌, sym, arith}
use Rattle.std.proofs.lemmas.List.{take-take, take_all, length-take-le}
use Rattle.mars_watch.specs.Lined.{line_undone}
use Rattle.mars_watch.proofs.CallerLemmas.{line-same, line-twice, later-same, later-kept, later-then, front-take}
use Rattle.mars_frozen.specs.Freezing.{FrozenPairs, frozen_mark, frozen_undone, IsLaterFrozen}
use Rattle.mars_frozen.specs.FreezingLaws.{FrozenMarkMade, FrozenMarkKept, FrozenMarksNest, LaterFollows}

pub later_follows : LaterFollows
later_follows a b c f g = record {
  pairs = later-then a.pairs b.pairs c.pairs f.pairs g.pairs;
  numbers = later-then a.numbers b.numbers c.numbers f.numbers g.numbers;
  more = omega (arith, f.more, g.more);
  watches = front-take (length a.watches) b.watches c.watches f.more g.watches ∙ f.watches;
}

-- states are the same where their parts are
pub same-state : (a b : FrozenPairs) → a.pairs ≡ b.pairs → a.numbers ≡ b.numbers → a.watches ≡ b.watches → a.filed ≡ b.filed → a.seen ≡ b.seen → a ≡ b
same-state a b p n w f s =
    ap (λ x. record { pairs = x; numbers = a.numbers; watches = a.watches; filed = a.filed; seen = a.seen }) p
    ∙ ap (λ x. record { pairs = b.pairs; numbers = x; watches = a.watches; filed = a.filed; seen = a.seen }) n
    ∙ ap (λ x. record { pairs = b.pairs; numbers = b.numbers; watches = x; filed = a.filed; seen = a.seen }) w
    ∙ ap (λ x. record { pairs = b.pairs; numbers = b.numbers; watches = b.watches; filed = x; seen = a.seen }) f
    ∙ ap (λ x. record { pairs = b.pairs; numbers = b.numbers; watches = b.watches; filed = b.filed; seen = x }) s

pub mark_made : FrozenMarkMade
mark_made frozen h = (
  record { pairs = omega arith; numbers = omega (arith, h); watches = omega arith },
  same-state (frozen_undone frozen (frozen_mark frozen)) frozen (line-same frozen.pairs) (ap (λ n. line_undone frozen.numbers n) (sym h) ∙ line-same frozen.numbers)
      (take_all (length frozen.watches) frozen.watches (omega arith)) refl refl,
)

pub mark_kept : FrozenMarkKept
mark_kept old new mark l m = (
  record { pairs = omega (arith, m.pairs, l.pairs.more); numbers = omega (arith, m.numbers, l.numbers.more); watches = omega (arith, m.watches, l.more) },
  same-state (frozen_undone new mark) (frozen_undone old mark) (later-kept old.pairs new.pairs mark.changes l.pairs m.pairs) (later-kept old.numbers new.numbers mark.changes l.numbers m.numbers)
      (front-take mark.watches old.watches new.watches m.watches l.watches) refl refl,
)

pub marks_nest : FrozenMarksNest
marks_nest frozen outer inner mo mi w =
    let p = line-twice frozen.pairs outer.changes inner.changes w.changes mi.pairs in
    let n = line-twice frozen.numbers outer.changes inner.changes w.changes mi.numbers in
    let size : length (take inner.watches frozen.watches) ≡ inner.watches = length-take-le inner.watches frozen.watches mi.watches in (
      record { pairs = omega (arith, p.1, w.changes); numbers = omega (arith, n.1, w.changes); watches = omega (arith, size, w.watches) },
      same-state (frozen_undone (frozen_undone frozen inner) outer) (frozen_undone frozen outer) p.0 n.0 (take-take outer.watches inner.watches frozen.watches w.watches) refl refl,
    )

pub later-all : (frozen : FrozenPairs) → IsLaterFrozen frozen frozen
later-all frozen = record {
  pairs = later-same frozen.pairs;
  numbers = later-same frozen.numbers;
  more = omega arith;
  watches = take_all (length frozen.watches) frozen.watches (omega arith);
}
