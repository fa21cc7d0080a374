-- The frozen pairs of a system that wake are those of its equations.
use Rattle.std.proofs.Common.{ℕ, List, [], ◌∷◌}
use Rattle.mars_store.specs.System.{System}
use Rattle.mars_frozen.specs.Freezing.{AreWoken}
use Rattle.mars_frozen.specs.Freezing.AreWoken.{none, wakes, stays}
use Rattle.mars_machine.specs.Subjects.{Subject}
use Rattle.mars_machine.specs.Equations.{Equations}
use Rattle.mars_machine.specs.Children.Wakes.{none as term-none, wakes as term-wakes, waits as term-waits}
use Rattle.mars_bridge.specs.Represents.{Represents, DenotePairs}
use Rattle.mars_bridge.specs.WakingLaws.{WakingTold}
use Rattle.mars_bridge.proofs.Carried.{known_iff}

module _ (e : Equations) (system : System) (vars : List ℕ) (r : Represents e system vars) where
  pub waking_told : (nodes : List (ℕ × ℕ)) (pairs : List (Subject × Subject)) → DenotePairs e system vars nodes pairs → (goals : List ℕ) (left : List (ℕ × ℕ))
      → AreWoken system nodes goals left → WakingTold e system vars pairs goals left
  waking_told [] [] st goals left none = record { subjects = []; others = []; wakes = term-none; called = tt; wait = tt }
  waking_told [] (pair ∷ pairs) st goals left w = absurd st
  waking_told (node ∷ nodes) [] st goals left w = absurd st
  waking_told (node ∷ nodes) (pair ∷ pairs) st (goal ∷ goals) left (wakes k w) =
      let rest = waking_told nodes pairs st.1 goals left w in
      record {
        subjects = pair.1 ∷ rest.subjects;
        others = rest.others;
        wakes = term-wakes ((known_iff e system vars r node.0 pair.0 st.0.first).0 k) rest.wakes;
        called = (st.0.second, rest.called);
        wait = rest.wait;
      }
  waking_told (node ∷ nodes) (pair ∷ pairs) st goals (other ∷ left) (stays n w) =
      let rest = waking_told nodes pairs st.1 goals left w in
      record {
        subjects = rest.subjects;
        others = pair ∷ rest.others;
        wakes = term-waits (λ k. n ((known_iff e system vars r node.0 pair.0 st.0.first).1 k)) rest.wakes;
        called = rest.called;
        wait = (st.0, rest.wait);
      }
