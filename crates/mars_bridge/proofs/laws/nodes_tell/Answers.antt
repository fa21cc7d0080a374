use Rattle.mars_bridge.proofs.Carried.{forced_iff, known_iff, place_iff, implied_iff, apart_iff, solvable_iff, represents_equal, denotes_equal}
use Rattle.mars_bridge.proofs.laws.nodes_tell.Goals as goal

pub returns-clause-node : goal.returns-clause-node
returns-clause-node c = λ e system vars r n subject st.
    record { forced = forced_iff e system vars r n subject st; known = known_iff e system vars r n subject st; place = place_iff e system vars r n subject st }

pub returns-clause-pair : goal.returns-clause-pair
returns-clause-pair c = λ e system vars r n m s t a b. record { implied = implied_iff e system vars r n m s t a b; apart = apart_iff e system vars r n m s t a b }

pub returns-clause-difs : goal.returns-clause-difs
returns-clause-difs c = solvable_iff

pub returns-clause-equal : goal.returns-clause-equal
returns-clause-equal c = λ e system new vars r n m s t a b size is.
    (represents_equal e system vars r new n m s t a b size is, λ k subject st. denotes_equal e system vars r new n m k s t subject size is st)
