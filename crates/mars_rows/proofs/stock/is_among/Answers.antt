use Rattle.std.proofs.Common.{◌≡◌, ℕ, ◌<◌, ◌≤◌, length, get_or, subst}
use Rattle.std.proofs.lemmas.Bool.{false≢true}
use Rattle.std.proofs.lemmas.List.Sorted.{searched}
use Rattle.std.specs.Result.{MatchResult}
use Rattle.mars_rows.proofs.Rising.{level, none_of}
use Rattle.mars_rows.proofs.stock.is_among.Goals as goal

pub returns-in-Err : goal.returns-in-Err
returns-in-Err c =
    let ns = c.args.numbers.now in
    let found = searched ns c.args.number c.binary_search.result c.binary_search.ensures.position (level ns c.requires) in
    let past = subst (λ r. MatchResult r (λ i. (i < length ns) × (get_or ns i 0 ≡ c.args.number)) (λ i. (i ≤ length ns) × ((k : ℕ) → k < i → get_or ns k 0 < c.args.number) × ((k : ℕ) → i ≤ k → k < length ns → c.args.number < get_or ns k 0))) c.in-Err.is found in
    (λ yes. absurd (false≢true yes), λ there. absurd (none_of ns c.args.number c.in-Err.field-0 past.1 past.2 there))
