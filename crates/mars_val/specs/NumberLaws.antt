-- A term has one number at most, and the operations have the built-in names that are meant.
use Rattle.std.specs.Prelude.{◌≡◌, ℕ, ℤ, codes, slice_get, Some}
use Rattle.mars_tree.specs.Names.{built_in_names}
use Rattle.mars_store.specs.System.{System}
use Rattle.mars_val.specs.declared.operation.Operation.TheVariants.{Add, Sub, Mul, Div, Mod}
use Rattle.mars_val.specs.Number.{HasNumber, operation_name}

-- a tree has one number at most
abbrev pub NumberIsOne : Type 0
NumberIsOne = (system : System) (n : ℕ) (x y : ℤ) → HasNumber system n x → HasNumber system n y → x ≡ y

-- the operations' names are built-in names
pub record OperationsAreBuiltIn : Type 0 where
  pub add : slice_get built_in_names (operation_name Add) ≡ Some (codes "add")
  pub sub : slice_get built_in_names (operation_name Sub) ≡ Some (codes "sub")
  pub mul : slice_get built_in_names (operation_name Mul) ≡ Some (codes "mul")
  pub div : slice_get built_in_names (operation_name Div) ≡ Some (codes "div")
  pub mod_is : slice_get built_in_names (operation_name Mod) ≡ Some (codes "mod")
