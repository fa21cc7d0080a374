-- A text says one input, or is refused.
use Rattle.std.proofs.Common.{◌≡◌, ℕ, List, ap, sym, ◌∙◌, subst, Bool, true, false, None}
use Rattle.mars_forms.specs.declared.table.TheConstants.{INPUT}
use Rattle.mars_script.specs.declared.script.Input.{Input}
use Rattle.mars_scripts.specs.Scripts.{input_told}
use Rattle.mars_tokens.specs.Tokens.{IsOfVersion}
use Rattle.mars_read.specs.declared.error.ReadError.{ReadError}
use Rattle.mars_read.specs.declared.error.ReadError.TheVariants as error
use Rattle.mars_read.specs.Spellings.{all_names}
use Rattle.mars_read.specs.Refused.{IsRefusedAs, either_limit}
use Rattle.mars_read.specs.ReadInput.{InputValue, input_building, input_begins, IsInputText, IsReadInput, IsNoInput}

-- a text of one version has one value, or is refused
abbrev pub HasOneValue : Bool → Type 0
HasOneValue two = (w x : InputValue) (bytes : List ℕ) → IsInputText two bytes w → IsInputText two bytes x → w ≡ x

abbrev pub IsReadOrRefused : Bool → Type 0
IsReadOrRefused two =
    (w : InputValue) (bytes : List ℕ) (e : ReadError) → IsInputText two bytes w → IsRefusedAs two INPUT.now input_building (input_begins bytes) bytes either_limit e → e ≡ error.NoMemory

-- what holds of both versions holds of each
pub of-each : (P : Bool → Type 0) → P true → P false → (two : Bool) → P two
of-each P second first true = second
of-each P second first false = first

-- a text that is read is of one version
same-version : (bytes : List ℕ) (w : InputValue) (two other : Bool) → IsInputText two bytes w → IsOfVersion two bytes → IsOfVersion other bytes → other ≡ two
same-version bytes w two other r is also = also two r.lexemes None r.tokens ∙ sym (is two r.lexemes None r.tokens)

pub input-same : ((two : Bool) → HasOneValue two) → (bytes : List ℕ) (input other : Input) → IsReadInput bytes input → IsReadInput bytes other → input ≡ other
input-same one bytes input other r s =
    let version = same-version bytes r.value r.two s.two r.read r.version s.version in
    let text = subst (λ (two : Bool). IsInputText two bytes s.value) version s.read in
    r.input_is ∙ ap (λ (w : InputValue). input_told (all_names w.0) w.1.1) (one r.two r.value s.value bytes r.read text) ∙ sym s.input_is

pub input-either : ((two : Bool) → IsReadOrRefused two) → (bytes : List ℕ) (input : Input) (e : ReadError) → IsReadInput bytes input → IsNoInput bytes e → e ≡ error.NoMemory
input-either one bytes input e r n =
    let version = same-version bytes r.value r.two n.two r.read r.version n.version in
    one r.two r.value bytes e r.read (subst (λ (two : Bool). IsRefusedAs two INPUT.now input_building (input_begins bytes) bytes either_limit e) version n.refused.refused)
