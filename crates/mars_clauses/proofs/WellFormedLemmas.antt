-- The rules and asks that events make are well formed: what holds of a rule or an ask that is being read is kept by each event.
use Rattle.std.proofs.Common.{◌≡◌, ◌≤◌, ◌<◌, ◌+◌, ◌^◌, ℕ, ℤ, max, List, [], ◌∷◌, ◌++◌, length, reverse, refl, ap, sym, ◌∙◌, subst, arith, All, append_assoc, append-nil, Option, Some, None, Bool, true, false, if◌then◌else◌, ◌==◌}
use Rattle.std.specs.List.{flat_map, AllByRecursion, list_any}
use Rattle.std.proofs.lemmas.Grind.{flat_map-append}
use Rattle.std.proofs.lemmas.List.{reverse-append, reverse-reverse, length_push, length-reverse}
use Rattle.std.proofs.lemmas.List.Elements.{All-from_recursion}
use Rattle.mars_base.specs.Lists.{AreDistinct}
use Rattle.mars_grammar.specs.FormTable.{Event, Read, Say}
use Rattle.mars_grammar.specs.Building.{performs}
use Rattle.mars_tree.specs.declared.label.NameId.{NameId}
use Rattle.mars_term.specs.declared.term.Term.{Term, Var, Int, Name, Tup, Dot, Kept, Str}
use Rattle.mars_term.specs.declared.clause.Goal.{Goal}
use Rattle.mars_term.specs.declared.clause.Goal.TheVariants.{Call, Cut}
use Rattle.mars_term.specs.declared.clause.Ask.{Ask}
use Rattle.mars_term.specs.Parts.{parts_of, vars_of, kept_of, number_of_var}
use Rattle.mars_term.specs.Clauses.{NumberedByAppearance, parts_of_goal, parts_of_goals, parts_of_rule, IsNameTerm, IsRule, IsAsk}
use Rattle.mars_term.proofs.PartLemmas.{parts-Name, parts-Tup, parts-Dot}
use Rattle.mars_forms.specs.declared.lexeme.TokenKind.{TokenKind}
use Rattle.mars_forms.specs.declared.lexeme.TokenKind.TheVariants as kind
use Rattle.mars_forms.specs.declared.symbol.FormSymbol.{FormSymbol}
use Rattle.mars_forms.specs.declared.symbol.FormSymbol.TheVariants as due
use Rattle.mars_forms.specs.declared.symbol.FormAction.{FormAction}
use Rattle.mars_forms.specs.declared.symbol.FormAction.TheVariants as action
use Rattle.mars_clauses.specs.declared.maker.ValuedToken.{ValuedToken}
use Rattle.mars_clauses.specs.declared.terms.OpenTerm.{OpenTerm}
use Rattle.mars_clauses.specs.declared.making.FinishedClause.{FinishedClause}
use Rattle.mars_clauses.specs.declared.making.FinishedClause.TheVariants as finished_clause
use Rattle.mars_clauses.specs.Short.{in_32_bits}
use Rattle.mars_clauses.specs.Terms.{Unfinished, number_of, vars_with, open_term, begun, with_argument, given, given_in, with_open, term_made, applied_in, joined_dot, paired_in, head_made, headed_in, with_var, with_kept, with_cut, with_part, is_ask_word, clause_read, clause_said, rule_made, ask_made, finished, finished_in, finished_by}
use Rattle.mars_clauses.specs.Lists.{Clauses, clauses, clauses_from, stored, clauses_event}
use Rattle.mars_clauses.specs.WellFormed.{MakesWellFormed, AreWellFormed}
use Rattle.mars_clauses.proofs.PartFacts.{IsFine, fine-more, all-append, all-front, all-back, all-more, vars-known, kept-known, none-below, short-lists, numbered-push, short-of, var-list, int-list, kept-list, text-list, name-list, tuple-list, dot-list}
use Rattle.mars_clauses.proofs.VarFacts.{known-below, unknown-last, distinct-var}

-- the parts of open names and tuples, and of goals before them, in the order of writing
abbrev row_parts : List OpenTerm → List Term
row_parts [] = []
row_parts (row ∷ outer) = row_parts outer ++ flat_map parts_of row.terms

abbrev parts_with : List Goal → List OpenTerm → List Term
parts_with goals rows = parts_of_goals goals ++ row_parts rows

abbrev unfinished : Bool → Option ℕ → List NameId → List NameId → Option Term → List Goal → List OpenTerm → Unfinished
unfinished asking most vars kept head goals rows = record { asking = asking; most = most; vars = vars; kept = kept; head = head; goals = goals; rows = rows }

given-goal : (goals : List Goal) (term : Term) → parts_with (goals ++ Call term ∷ []) [] ≡ parts_with goals [] ++ parts_of term
given-goal goals term =
    append-nil (parts_of_goals (goals ++ Call term ∷ [])) ∙ flat_map-append parts_of_goal goals (Call term ∷ [])
    ∙ ap (λ (l : List Term). parts_of_goals goals ++ l) (append-nil (parts_of term)) ∙ ap (λ (l : List Term). l ++ parts_of term) (sym (append-nil (parts_of_goals goals)))

given-row : (goals : List Goal) (row : OpenTerm) (outer : List OpenTerm) (term : Term) → parts_with goals (with_argument term row ∷ outer) ≡ parts_with goals (row ∷ outer) ++ parts_of term
given-row goals row outer term =
    let front = parts_of_goals goals in
    let around = row_parts outer in
    let inside = flat_map parts_of row.terms in
    ap (λ (l : List Term). front ++ (around ++ l)) (flat_map-append parts_of row.terms (term ∷ []) ∙ ap (λ (l : List Term). inside ++ l) (append-nil (parts_of term)))
    ∙ ap (λ (l : List Term). front ++ l) (sym (append_assoc around inside (parts_of term)))
    ∙ sym (append_assoc front (around ++ inside) (parts_of term))

cut-parts : (goals : List Goal) (rows : List OpenTerm) → parts_with (goals ++ Cut ∷ []) rows ≡ parts_with goals rows
cut-parts goals rows = ap (λ (l : List Term). l ++ row_parts rows) (flat_map-append parts_of_goal goals (Cut ∷ []) ∙ append-nil (parts_of_goals goals))

-- what holds of the parts that are read
record Facts (n : ℕ) (asking : Bool) (vars kept : List NameId) (parts : List Term) : Type 0 where
  pub fine : AllByRecursion (IsFine (length vars) (length kept) n) parts
  pub distinct : AreDistinct vars
  pub numbered : asking ≡ true → NumberedByAppearance 0 (length vars) (vars_of parts)
  pub ruled : asking ≡ false → kept ≡ []
  pub few_vars : length vars ≤ n
  pub few_kept : length kept ≤ n

record IsHead (n vars : ℕ) (head : Option Term) : Type 0 where
  pub is : (term : Term) → head ≡ Some term → IsNameTerm term × AllByRecursion (IsFine vars 0 n) (parts_of term)

-- at most so many arguments
abbrev AreShort : ℕ → List OpenTerm → Type 0
AreShort n rows = AllByRecursion (λ row. length row.terms ≤ n) rows

record Keeps (n : ℕ) (c : Unfinished) : Type 0 where
  pub facts : Facts n c.asking c.vars c.kept (parts_with c.goals c.rows)
  pub rows : AreShort n c.rows
  pub head : IsHead n (length c.vars) c.head

facts-raised : (n : ℕ) (asking : Bool) (vars kept : List NameId) (parts : List Term) → Facts n asking vars kept parts → Facts (n + 1) asking vars kept parts
facts-raised n asking vars kept parts f = record {
  fine = all-more (IsFine (length vars) (length kept) n) (IsFine (length vars) (length kept) (n + 1)) (fine-more (length vars) (length kept) n (length vars) (length kept) (n + 1) (omega arith) (omega arith) (omega arith)) parts f.fine;
  distinct = f.distinct;
  numbered = f.numbered;
  ruled = f.ruled;
  few_vars = let l = f.few_vars in omega arith;
  few_kept = let l = f.few_kept in omega arith;
}

rows-raised : (n : ℕ) (rows : List OpenTerm) → AreShort n rows → AreShort (n + 1) rows
rows-raised n rows short = all-more (λ (row : OpenTerm). length row.terms ≤ n) (λ (row : OpenTerm). length row.terms ≤ n + 1) (λ row l. omega arith) rows short

head-raised : (n vars vars' : ℕ) (head : Option Term) → vars ≤ vars' → IsHead n vars head → IsHead (n + 1) vars' head
head-raised n vars vars' head l h = record { is = λ term e. let p = h.is term e in (p.0, all-more (IsFine vars 0 n) (IsFine vars' 0 (n + 1)) (fine-more vars 0 n vars' 0 (n + 1) l (omega arith) (omega arith)) (parts_of term) p.1) }

raised : (n : ℕ) (c : Unfinished) → Keeps n c → Keeps (n + 1) c
raised n c k = record {
  facts = facts-raised n c.asking c.vars c.kept (parts_with c.goals c.rows) k.facts;
  rows = rows-raised n c.rows k.rows;
  head = head-raised n (length c.vars) (length c.vars) c.head (omega arith) k.head;
}

-- a part that is no variable, before others
vars-insert : (front back : List Term) (part : Term) → number_of_var part ≡ [] → vars_of (front ++ back) ≡ vars_of (front ++ part ∷ back)
vars-insert front back part e = flat_map-append number_of_var front back ∙ ap (λ (l : List ℕ). vars_of front ++ (l ++ vars_of back)) (sym e) ∙ sym (flat_map-append number_of_var front (part ∷ back))

facts-insert : (n : ℕ) (asking : Bool) (vars kept : List NameId) (front back : List Term) (part : Term) → Facts n asking vars kept (front ++ back) → IsFine (length vars) (length kept) (n + 1) part → number_of_var part ≡ [] →
    Facts (n + 1) asking vars kept (front ++ part ∷ back)
facts-insert n asking vars kept front back part f fine e =
    let more = facts-raised n asking vars kept (front ++ back) f in
    let P = IsFine (length vars) (length kept) (n + 1) in record {
      fine = all-append P front (part ∷ back) (all-front P front back more.fine) (fine, all-back P front back more.fine);
      distinct = f.distinct;
      numbered = λ a. subst (λ (l : List ℕ). NumberedByAppearance 0 (length vars) l) (vars-insert front back part e) (f.numbered a);
      ruled = f.ruled;
      few_vars = more.few_vars;
      few_kept = more.few_kept;
    }

facts-push : (n : ℕ) (asking : Bool) (vars kept : List NameId) (parts : List Term) (part : Term) → Facts n asking vars kept parts → IsFine (length vars) (length kept) (n + 1) part → number_of_var part ≡ [] →
    Facts (n + 1) asking vars kept (parts ++ part ∷ [])
facts-push n asking vars kept parts part f fine e = facts-insert n asking vars kept parts [] part (subst (λ (l : List Term). Facts n asking vars kept l) (sym (append-nil parts)) f) fine e

-- a term more
given-keeps : (n : ℕ) (asking : Bool) (most : Option ℕ) (vars kept : List NameId) (head : Option Term) (goals : List Goal) (rows : List OpenTerm) (term : Term) →
    Facts (n + 1) asking vars kept (parts_with goals rows ++ parts_of term) → AreShort n rows → IsHead (n + 1) (length vars) head → Keeps (n + 1) (given_in rows term (unfinished asking most vars kept head goals rows))
given-keeps n asking most vars kept head goals [] term f short h = record {
  facts = subst (λ (l : List Term). Facts (n + 1) asking vars kept l) (sym (given-goal goals term)) f;
  rows = tt;
  head = h;
}
given-keeps n asking most vars kept head goals (row ∷ outer) term f short h = record {
  facts = subst (λ (l : List Term). Facts (n + 1) asking vars kept l) (sym (given-row goals row outer term)) f;
  rows = (let l = short.0 in omega (arith, length_push row.terms term), rows-raised n outer short.1);
  head = h;
}

open-keeps : (n : ℕ) (c : Unfinished) (opening : Option NameId) → Keeps n c → Keeps (n + 1) (with_open opening c)
open-keeps n c opening k = let more = raised n c k in record {
  facts = subst (λ (l : List Term). Facts (n + 1) c.asking c.vars c.kept (parts_of_goals c.goals ++ l)) (sym (append-nil (row_parts c.rows))) more.facts;
  rows = (omega arith, more.rows);
  head = more.head;
}

cut-keeps : (n : ℕ) (c : Unfinished) → Keeps n c → Keeps (n + 1) (with_cut c)
cut-keeps n c k = let more = raised n c k in record {
  facts = subst (λ (l : List Term). Facts (n + 1) c.asking c.vars c.kept l) (sym (cut-parts c.goals c.rows)) more.facts;
  rows = more.rows;
  head = more.head;
}

-- an integer or a string
int-keeps : (n : ℕ) (c : Unfinished) (z : ℤ) → Keeps n c → Keeps (n + 1) (given_in c.rows (Int z) c)
int-keeps n c z k = given-keeps n c.asking c.most c.vars c.kept c.head c.goals c.rows (Int z)
    (facts-push n c.asking c.vars c.kept (parts_with c.goals c.rows) (Int z) k.facts (record { vars_known = tt; kept_known = tt; short = short-of (Int z) [] (n + 1) (int-list z) (omega arith) }) refl) k.rows (head-raised n (length c.vars) (length c.vars) c.head (omega arith) k.head)

text-keeps : (n : ℕ) (c : Unfinished) (name : NameId) → Keeps n c → Keeps (n + 1) (given_in c.rows (Str name) c)
text-keeps n c name k = given-keeps n c.asking c.most c.vars c.kept c.head c.goals c.rows (Str name)
    (facts-push n c.asking c.vars c.kept (parts_with c.goals c.rows) (Str name) k.facts (record { vars_known = tt; kept_known = tt; short = short-of (Str name) [] (n + 1) (text-list name) (omega arith) }) refl) k.rows (head-raised n (length c.vars) (length c.vars) c.head (omega arith) k.head)

-- a name or a tuple whose arguments are whole
made-parts : (opening : Option NameId) (terms : List Term) → parts_of (term_made opening terms) ≡ term_made opening terms ∷ flat_map parts_of terms
made-parts (Some name) terms = parts-Name name terms
made-parts None terms = parts-Tup terms

made-no_var : (opening : Option NameId) (terms : List Term) → number_of_var (term_made opening terms) ≡ []
made-no_var (Some name) terms = refl
made-no_var None terms = refl

made-fine : (vars kept most : ℕ) (opening : Option NameId) (terms : List Term) → length terms ≤ most → IsFine vars kept most (term_made opening terms)
made-fine vars kept most (Some name) terms l = record { vars_known = tt; kept_known = tt; short = short-of (Name name terms) terms most (name-list name terms) l }
made-fine vars kept most None terms l = record { vars_known = tt; kept_known = tt; short = short-of (Tup terms) terms most (tuple-list terms) l }

applied-keeps : (n : ℕ) (asking : Bool) (most : Option ℕ) (vars kept : List NameId) (head : Option Term) (goals : List Goal) (rows : List OpenTerm) →
    Keeps n (unfinished asking most vars kept head goals rows) → Keeps (n + 1) (applied_in rows (unfinished asking most vars kept head goals rows))
applied-keeps n asking most vars kept head goals [] k = raised n (unfinished asking most vars kept head goals []) k
applied-keeps n asking most vars kept head goals (row ∷ outer) k =
    let term = term_made row.opening row.terms in
    let front = parts_with goals outer in
    let inside = flat_map parts_of row.terms in
    let before : Facts n asking vars kept (front ++ inside) = subst (λ (l : List Term). Facts n asking vars kept l) (sym (append_assoc (parts_of_goals goals) (row_parts outer) inside)) k.facts in
    let after = facts-insert n asking vars kept front inside term before (let l = k.rows.0 in made-fine (length vars) (length kept) (n + 1) row.opening row.terms (omega arith)) (made-no_var row.opening row.terms) in
    given-keeps n asking most vars kept head goals outer term (subst (λ (l : List Term). Facts (n + 1) asking vars kept (front ++ l)) (sym (made-parts row.opening row.terms)) after) k.rows.1 (head-raised n (length vars) (length vars) head (omega arith) k.head)

-- both sides of a dot
pair-parts : (front : List Term) (goals : List Goal) (outer : List OpenTerm) (opening : Option NameId) (more : List Term) → parts_with goals (open_term opening (front ++ more) ∷ outer) ≡ parts_with goals (open_term opening front ∷ outer) ++ flat_map parts_of more
pair-parts front goals outer opening more =
    let start = parts_of_goals goals in
    let around = row_parts outer in
    let inside = flat_map parts_of front in
    ap (λ (l : List Term). start ++ (around ++ l)) (flat_map-append parts_of front more)
    ∙ ap (λ (l : List Term). start ++ l) (sym (append_assoc around inside (flat_map parts_of more)))
    ∙ sym (append_assoc start (around ++ inside) (flat_map parts_of more))

dot-parts : (left right : Term) → flat_map parts_of (Dot left right ∷ []) ≡ Dot left right ∷ flat_map parts_of (left ∷ right ∷ [])
dot-parts left right = append-nil (parts_of (Dot left right)) ∙ parts-Dot left right ∙ ap (λ (l : List Term). Dot left right ∷ (parts_of left ++ l)) (sym (append-nil (parts_of right)))

pair-facts : (n : ℕ) (asking : Bool) (vars kept : List NameId) (goals : List Goal) (outer : List OpenTerm) (opening : Option NameId) (terms backwards : List Term) → reverse terms ≡ backwards →
    Facts n asking vars kept (parts_with goals (open_term opening terms ∷ outer)) → Facts (n + 1) asking vars kept (parts_with goals (open_term opening (reverse (joined_dot backwards)) ∷ outer))
pair-facts n asking vars kept goals outer opening terms [] e f =
    facts-raised n asking vars kept (parts_with goals (open_term opening [] ∷ outer)) (subst (λ (l : List Term). Facts n asking vars kept (parts_with goals (open_term opening l ∷ outer))) (sym (reverse-reverse terms) ∙ ap reverse e) f)
pair-facts n asking vars kept goals outer opening terms (only ∷ []) e f =
    facts-raised n asking vars kept (parts_with goals (open_term opening (only ∷ []) ∷ outer)) (subst (λ (l : List Term). Facts n asking vars kept (parts_with goals (open_term opening l ∷ outer))) (sym (reverse-reverse terms) ∙ ap reverse e) f)
pair-facts n asking vars kept goals outer opening terms (right ∷ left ∷ before) e f =
    let front = reverse before in
    let start = parts_with goals (open_term opening front ∷ outer) in
    let was : terms ≡ front ++ left ∷ right ∷ [] = sym (reverse-reverse terms) ∙ ap reverse e ∙ reverse-append (right ∷ left ∷ []) before in
    let now : reverse (Dot left right ∷ before) ≡ front ++ Dot left right ∷ [] = reverse-append (Dot left right ∷ []) before in
    let given : Facts n asking vars kept (start ++ flat_map parts_of (left ∷ right ∷ [])) =
    subst (λ (l : List Term). Facts n asking vars kept l) (ap (λ (l : List Term). parts_with goals (open_term opening l ∷ outer)) was ∙ pair-parts front goals outer opening (left ∷ right ∷ [])) f in
    let made = facts-insert n asking vars kept start (flat_map parts_of (left ∷ right ∷ [])) (Dot left right) given (record { vars_known = tt; kept_known = tt; short = short-of (Dot left right) [] (n + 1) (dot-list left right) (omega arith) }) refl in
    subst (λ (l : List Term). Facts (n + 1) asking vars kept l)
    (ap (λ (l : List Term). start ++ l) (sym (dot-parts left right)) ∙ sym (pair-parts front goals outer opening (Dot left right ∷ [])) ∙ ap (λ (l : List Term). parts_with goals (open_term opening l ∷ outer)) (sym now)) made

joined-length : (terms : List Term) → length (joined_dot terms) ≤ length terms
joined-length [] = omega arith
joined-length (only ∷ []) = omega arith
joined-length (right ∷ left ∷ terms) = omega arith

paired-keeps : (n : ℕ) (asking : Bool) (most : Option ℕ) (vars kept : List NameId) (head : Option Term) (goals : List Goal) (rows : List OpenTerm) →
    Keeps n (unfinished asking most vars kept head goals rows) → Keeps (n + 1) (paired_in rows (unfinished asking most vars kept head goals rows))
paired-keeps n asking most vars kept head goals [] k = raised n (unfinished asking most vars kept head goals []) k
paired-keeps n asking most vars kept head goals (row ∷ outer) k = record {
  facts = pair-facts n asking vars kept goals outer row.opening row.terms (reverse row.terms) refl k.facts;
  rows = (let l = k.rows.0 in omega (arith, length-reverse (joined_dot (reverse row.terms)), joined-length (reverse row.terms), length-reverse row.terms), rows-raised n outer k.rows.1);
  head = head-raised n (length vars) (length vars) head (omega arith) k.head;
}

-- a variable
var-facts : (n : ℕ) (asking known : Bool) (name : NameId) (vars kept : List NameId) (parts : List Term) → list_any (λ var. name.0 == var.0) vars ≡ known → Facts n asking vars kept parts →
    Facts (n + 1) asking (if known then vars else vars ++ name ∷ []) kept (parts ++ Var (number_of name vars) ∷ [])
var-facts n asking true name vars kept parts e f =
    let below : number_of name vars < length vars = known-below name vars e in
    let more = facts-raised n asking vars kept parts f in
    record {
      fine = all-append (IsFine (length vars) (length kept) (n + 1)) parts (Var (number_of name vars) ∷ []) more.fine (record { vars_known = (below, tt); kept_known = tt; short = short-of (Var (number_of name vars)) [] (n + 1) (var-list (number_of name vars)) (omega arith) }, tt);
      distinct = f.distinct;
      numbered = λ a.
          let total : max (length vars) (number_of name vars + 1) ≡ length vars = omega arith in
          subst (λ (l : List ℕ). NumberedByAppearance 0 (length vars) l) (sym (flat_map-append number_of_var parts (Var (number_of name vars) ∷ [])))
          (subst (λ (t : ℕ). NumberedByAppearance 0 t (vars_of parts ++ number_of name vars ∷ [])) total (numbered-push 0 (length vars) (vars_of parts) (number_of name vars) (f.numbered a) (omega arith)));
      ruled = f.ruled;
      few_vars = more.few_vars;
      few_kept = more.few_kept;
    }
var-facts n asking false name vars kept parts e f =
    let last : number_of name vars ≡ length vars = unknown-last name vars e in
    let grown : length (vars ++ name ∷ []) ≡ length vars + 1 = length_push vars name in
    let wider = all-more (IsFine (length vars) (length kept) n) (IsFine (length (vars ++ name ∷ [])) (length kept) (n + 1))
    (fine-more (length vars) (length kept) n (length (vars ++ name ∷ [])) (length kept) (n + 1) (omega arith) (omega arith) (omega arith)) parts f.fine in
    record {
      fine = all-append (IsFine (length (vars ++ name ∷ [])) (length kept) (n + 1)) parts (Var (number_of name vars) ∷ []) wider (record { vars_known = (omega arith, tt); kept_known = tt; short = short-of (Var (number_of name vars)) [] (n + 1) (var-list (number_of name vars)) (omega arith) }, tt);
      distinct = distinct-var name vars f.distinct e;
      numbered = λ a.
          let total : max (length vars) (number_of name vars + 1) ≡ length (vars ++ name ∷ []) = omega arith in
          subst (λ (l : List ℕ). NumberedByAppearance 0 (length (vars ++ name ∷ [])) l) (sym (flat_map-append number_of_var parts (Var (number_of name vars) ∷ [])))
          (subst (λ (t : ℕ). NumberedByAppearance 0 t (vars_of parts ++ number_of name vars ∷ [])) total (numbered-push 0 (length vars) (vars_of parts) (number_of name vars) (f.numbered a) (omega arith)));
      ruled = f.ruled;
      few_vars = let l = f.few_vars in omega (arith, grown);
      few_kept = let l = f.few_kept in omega arith;
    }

with-longer : (known : Bool) (name : NameId) (vars : List NameId) → length vars ≤ length (if known then vars else vars ++ name ∷ [])
with-longer true name vars = omega arith
with-longer false name vars = omega (arith, length_push vars name)

-- a number that 32 bits hold
short-same : (n most : ℕ) → n ≤ most → most < 2 ^ 32 → in_32_bits n ≡ n
short-same n most l few = omega arith

number-within : (name : NameId) (vars : List NameId) (known : Bool) → list_any (λ var. name.0 == var.0) vars ≡ known → number_of name vars ≤ length vars
number-within name vars true e = let l = known-below name vars e in omega arith
number-within name vars false e = let l = unknown-last name vars e in omega arith

var-keeps : (n : ℕ) (c : Unfinished) (name : NameId) → n < 2 ^ 32 → Keeps n c → Keeps (n + 1) (with_var name c)
var-keeps n c name few k =
    let known = list_any (λ (var : NameId). name.0 == var.0) c.vars in
    let within = number-within name c.vars known refl in
    let most = k.facts.few_vars in
    let same : in_32_bits (number_of name c.vars) ≡ number_of name c.vars = short-same (number_of name c.vars) n (omega arith) few in
    subst (λ (number : ℕ). Keeps (n + 1) (given (Var number) (record c { vars = vars_with name c.vars }))) (sym same)
    (given-keeps n c.asking c.most (vars_with name c.vars) c.kept c.head c.goals c.rows (Var (number_of name c.vars))
    (var-facts n c.asking known name c.vars c.kept (parts_with c.goals c.rows) refl k.facts) k.rows
    (head-raised n (length c.vars) (length (vars_with name c.vars)) c.head (with-longer known name c.vars) k.head))

-- a kept name
kept-facts : (n : ℕ) (name : NameId) (vars kept : List NameId) (parts : List Term) → Facts n true vars kept parts → Facts (n + 1) true vars (kept ++ name ∷ []) (parts ++ Kept (length kept) ∷ [])
kept-facts n name vars kept parts f =
    let grown : length (kept ++ name ∷ []) ≡ length kept + 1 = length_push kept name in
    let wider = all-more (IsFine (length vars) (length kept) n) (IsFine (length vars) (length (kept ++ name ∷ [])) (n + 1))
    (fine-more (length vars) (length kept) n (length vars) (length (kept ++ name ∷ [])) (n + 1) (omega arith) (omega arith) (omega arith)) parts f.fine in
    record {
      fine = all-append (IsFine (length vars) (length (kept ++ name ∷ [])) (n + 1)) parts (Kept (length kept) ∷ []) wider (record { vars_known = tt; kept_known = (omega arith, tt); short = short-of (Kept (length kept)) [] (n + 1) (kept-list (length kept)) (omega arith) }, tt);
      distinct = f.distinct;
      numbered = λ a. subst (λ (l : List ℕ). NumberedByAppearance 0 (length vars) l) (sym (append-nil (vars_of parts)) ∙ sym (flat_map-append number_of_var parts (Kept (length kept) ∷ []))) (f.numbered a);
      ruled = λ a. cc;
      few_vars = let l = f.few_vars in omega arith;
      few_kept = let l = f.few_kept in omega (arith, grown);
    }

kept-keeps : (n : ℕ) (asking : Bool) (most : Option ℕ) (vars kept : List NameId) (head : Option Term) (goals : List Goal) (rows : List OpenTerm) (name : NameId) → n < 2 ^ 32 →
    Keeps n (unfinished asking most vars kept head goals rows) → Keeps (n + 1) (with_kept name (unfinished asking most vars kept head goals rows))
kept-keeps n true most vars kept head goals rows name few k =
    subst (λ (number : ℕ). Keeps (n + 1) (given_in rows (Kept number) (unfinished true most vars (kept ++ name ∷ []) head goals rows))) (sym (short-same (length kept) n k.facts.few_kept few))
    (given-keeps n true most vars (kept ++ name ∷ []) head goals rows (Kept (length kept)) (kept-facts n name vars kept (parts_with goals rows) k.facts) k.rows (head-raised n (length vars) (length vars) head (omega arith) k.head))
kept-keeps n false most vars kept head goals rows name few k = raised n (unfinished false most vars kept head goals rows) k

-- a head
headed-keeps : (n : ℕ) (most : Option ℕ) (vars kept : List NameId) (head : Option Term) (goals : List Goal) (rows : List OpenTerm) →
    Keeps n (unfinished false most vars kept head goals rows) → Keeps (n + 1) (headed_in rows (unfinished false most vars kept head goals rows))
headed-keeps n most vars kept head goals [] k = raised n (unfinished false most vars kept head goals []) k
headed-keeps n most vars kept head goals (row ∷ outer) k =
    let more = raised n (unfinished false most vars kept head goals (row ∷ outer)) k in
    let P = IsFine (length vars) (length kept) (n + 1) in
    let start = parts_of_goals goals in
    let around = row_parts outer in
    let inside = flat_map parts_of row.terms in
    record {
      facts = record {
        fine = all-append P start around (all-front P start (around ++ inside) more.facts.fine) (all-front P around inside (all-back P start (around ++ inside) more.facts.fine));
        distinct = k.facts.distinct;
        numbered = λ a. cc;
        ruled = k.facts.ruled;
        few_vars = more.facts.few_vars;
        few_kept = more.facts.few_kept;
      };
      rows = more.rows.1;
      head = head-of row.opening row.terms more.rows.0
          (subst (λ (l : List NameId). AllByRecursion (IsFine (length vars) (length l) (n + 1)) inside) (k.facts.ruled refl) (all-back P around inside (all-back P start (around ++ inside) more.facts.fine)));
    }
  where
    head-of : (opening : Option NameId) (terms : List Term) → length terms ≤ n + 1 → AllByRecursion (IsFine (length vars) 0 (n + 1)) (flat_map parts_of terms) → IsHead (n + 1) (length vars) (head_made opening terms)
    head-of None terms l fine = record { is = λ term e. cc }
    head-of (Some name) terms l fine = record {
      is = λ term e.
          let same : Name name terms ≡ term = cc in (
            (name, terms, sym same),
            subst (λ (t : Term). AllByRecursion (IsFine (length vars) 0 (n + 1)) (parts_of t)) same
                (subst (λ (l : List Term). AllByRecursion (IsFine (length vars) 0 (n + 1)) l) (sym (parts-Name name terms)) (made-fine (length vars) 0 (n + 1) (Some name) terms l, fine)),
          );
    }

head-keeps : (n : ℕ) (asking : Bool) (most : Option ℕ) (vars kept : List NameId) (head : Option Term) (goals : List Goal) (rows : List OpenTerm) →
    Keeps n (unfinished asking most vars kept head goals rows) → Keeps (n + 1) (clause_said action.Head (unfinished asking most vars kept head goals rows))
head-keeps n true most vars kept head goals rows k = raised n (unfinished true most vars kept head goals rows) k
head-keeps n false most vars kept head goals rows k = headed-keeps n most vars kept head goals rows k

-- the beginning
begun-keeps : (n : ℕ) (asking : Bool) (rows : List OpenTerm) → row_parts rows ≡ [] → AreShort n rows → Keeps n (begun asking rows)
begun-keeps n asking rows none short = record {
  facts = subst (λ (l : List Term). Facts n asking [] [] l) (sym none) (record { fine = tt; distinct = λ i j x at other. cc; numbered = λ a. refl; ruled = λ a. refl; few_vars = omega arith; few_kept = omega arith });
  rows = short;
  head = record { is = λ term e. cc };
}

part-keeps : (n : ℕ) (k : TokenKind) (t : ValuedToken) (c : Unfinished) → n < 2 ^ 32 → Keeps n c → Keeps (n + 1) (with_part k t c)
part-keeps n kind.Variable t c few k = var-keeps n c t.name few k
part-keeps n kind.Integer t c few k = int-keeps n c t.number k
part-keeps n kind.Text t c few k = text-keeps n c t.name k
part-keeps n kind.Less t c few k = open-keeps n c None k
part-keeps n kind.Slash t c few k = cut-keeps n c k
part-keeps n kind.Open t c few k = raised n c k
part-keeps n kind.Hash t c few k = raised n c k
part-keeps n _ t c few k = open-keeps n c (Some t.name) k

read-keeps : (n : ℕ) (s : FormSymbol) (t : ValuedToken) (c : Unfinished) → n < 2 ^ 32 → Keeps n c → Keeps (n + 1) (clause_read s t c)
read-keeps n due.RuleList t c few k = begun-keeps (n + 1) false (open_term (Some t.name) [] ∷ []) refl (omega arith, tt)
read-keeps n due.Commands t c few k = begun-keeps (n + 1) (is_ask_word t.kind) [] refl tt
read-keeps n due.Goals t c few k = part-keeps n t.kind t c few k
read-keeps n due.AskGoals t c few k = part-keeps n t.kind t c few k
read-keeps n due.Term t c few k = part-keeps n t.kind t c few k
read-keeps n due.AskTerm t c few k = part-keeps n t.kind t c few k
read-keeps n due.KeptName t c few k = kept-keeps n c.asking c.most c.vars c.kept c.head c.goals c.rows t.name few k
read-keeps n due.AskLimit t c few k = let more = raised n c k in record { facts = more.facts; rows = more.rows; head = more.head }
read-keeps n _ t c few k = raised n c k

say-keeps : (n : ℕ) (a : FormAction) (c : Unfinished) → Keeps n c → Keeps (n + 1) (clause_said a c)
say-keeps n action.Apply c k = applied-keeps n c.asking c.most c.vars c.kept c.head c.goals c.rows k
say-keeps n action.Call c k = applied-keeps n c.asking c.most c.vars c.kept c.head c.goals c.rows k
say-keeps n action.Pair c k = paired-keeps n c.asking c.most c.vars c.kept c.head c.goals c.rows k
say-keeps n action.Head c k = head-keeps n c.asking c.most c.vars c.kept c.head c.goals c.rows k
say-keeps n action.Define c k = raised n c k

-- what is whole
rule-whole : (n : ℕ) (head : Term) (c : Unfinished) → n < 2 ^ 32 → c.rows ≡ [] → c.asking ≡ false → c.head ≡ Some head → Keeps n c → IsRule (rule_made head c)
rule-whole n head c few closed ruled is k =
    let P = IsFine (length c.vars) 0 n in
    let top = k.head.is head is in
    let body : AllByRecursion P (parts_of_goals c.goals) = subst (λ (l : List NameId). AllByRecursion (IsFine (length c.vars) (length l) n) (parts_of_goals c.goals)) (k.facts.ruled ruled)
    (all-front (IsFine (length c.vars) (length c.kept) n) (parts_of_goals c.goals) (row_parts c.rows) k.facts.fine) in
    let all = all-append P (parts_of head) (parts_of_goals c.goals) top.1 body in
    record {
      head = top.0;
      vars = subst (λ (count : ℕ). All (λ number. number < count) (vars_of (parts_of_rule (rule_made head c)))) (sym (short-same (length c.vars) n k.facts.few_vars few))
          (vars-known (length c.vars) 0 n (parts_of_rule (rule_made head c)) all);
      kept = none-below (kept_of (parts_of_rule (rule_made head c))) (kept-known (length c.vars) 0 n (parts_of_rule (rule_made head c)) all);
      short = short-lists (length c.vars) 0 n few (parts_of_rule (rule_made head c)) all;
    }

ask-whole : (n : ℕ) (c : Unfinished) → n < 2 ^ 32 → c.rows ≡ [] → c.asking ≡ true → Keeps n c → IsAsk (ask_made c)
ask-whole n c few closed asked k =
    let all = all-front (IsFine (length c.vars) (length c.kept) n) (parts_of_goals c.goals) (row_parts c.rows) k.facts.fine in
    let alone : parts_with c.goals c.rows ≡ parts_of_goals c.goals = ap (λ (l : List OpenTerm). parts_of_goals c.goals ++ row_parts l) closed ∙ append-nil (parts_of_goals c.goals) in
    record {
      numbered = subst (λ (l : List Term). NumberedByAppearance 0 (length c.vars) (vars_of l)) alone (k.facts.numbered asked);
      distinct = k.facts.distinct;
      kept = All-from_recursion (λ number. number < length c.kept) (kept_of (parts_of_goals c.goals)) (kept-known (length c.vars) (length c.kept) n (parts_of_goals c.goals) all);
      short = short-lists (length c.vars) (length c.kept) n few (parts_of_goals c.goals) all;
    }

-- what a whole clause is
abbrev IsWhole : FinishedClause → Type 0
IsWhole (finished_clause.Rule rule) = IsRule rule
IsWhole (finished_clause.Ask ask) = IsAsk ask
IsWhole finished_clause.Neither = Unit {0}

by-whole : (n : ℕ) (c : Unfinished) (head : Option Term) (asking : Bool) → n < 2 ^ 32 → c.rows ≡ [] → c.asking ≡ asking → c.head ≡ head → Keeps n c → IsWhole (finished_by head asking c)
by-whole n c (Some head) false few closed a h k = rule-whole n head c few closed a h k
by-whole n c None true few closed a h k = ask-whole n c few closed a k
by-whole n c (Some head) true few closed a h k = tt
by-whole n c None false few closed a h k = tt

in-whole : (n : ℕ) (c : Unfinished) (rows : List OpenTerm) → n < 2 ^ 32 → c.rows ≡ rows → Keeps n c → IsWhole (finished_in rows c)
in-whole n c [] few closed k = by-whole n c c.head c.asking few closed refl refl k
in-whole n c (row ∷ outer) few closed k = tt

-- all that is made so far
record KeepsAll (n : ℕ) (v : Clauses) : Type 0 where
  pub reading : Keeps n v.reading
  pub rules : AllByRecursion IsRule v.rules
  pub asks : AllByRecursion IsAsk v.asks

stored-keeps : (n : ℕ) (clause : FinishedClause) (v : Clauses) → IsWhole clause → KeepsAll n v → KeepsAll (n + 1) (stored clause v)
stored-keeps n (finished_clause.Rule rule) v w k = record { reading = begun-keeps (n + 1) false [] refl tt; rules = all-append IsRule v.rules (rule ∷ []) k.rules (w, tt); asks = k.asks }
stored-keeps n (finished_clause.Ask ask) v w k = record { reading = begun-keeps (n + 1) false [] refl tt; rules = k.rules; asks = all-append IsAsk v.asks (ask ∷ []) k.asks (w, tt) }
stored-keeps n finished_clause.Neither v w k = record { reading = begun-keeps (n + 1) false [] refl tt; rules = k.rules; asks = k.asks }

read-all : (n : ℕ) (s : FormSymbol) (t : ValuedToken) (v : Clauses) → n < 2 ^ 32 → KeepsAll n v → KeepsAll (n + 1) (clauses_event (Read s t) v)
read-all n due.OneSemicolon t v few k = stored-keeps n (finished v.reading) v (in-whole n v.reading v.reading.rows few refl k.reading) k
read-all n s t v few k = record { reading = read-keeps n s t v.reading few k.reading; rules = k.rules; asks = k.asks }

event-all : (n : ℕ) (e : Event FormSymbol ValuedToken FormAction) (v : Clauses) → n < 2 ^ 32 → KeepsAll n v → KeepsAll (n + 1) (clauses_event e v)
event-all n (Read s t) v few k = read-all n s t v few k
event-all n (Say a) v few k = record { reading = say-keeps n a v.reading k.reading; rules = k.rules; asks = k.asks }

last-ask : (n : ℕ) (v : Clauses) → n < 2 ^ 32 → KeepsAll n v → (ask : Ask) → finished v.reading ≡ finished_clause.Ask ask → IsAsk ask
last-ask n v few k ask e = subst (λ (f : FinishedClause). IsWhole f) e (in-whole n v.reading v.reading.rows few refl k.reading)

events-all : (n : ℕ) (es : List (Event FormSymbol ValuedToken FormAction)) (v : Clauses) → n + length es < 2 ^ 32 → KeepsAll n v → AreWellFormed (performs clauses es v)
events-all n [] v few k = record {
  rules = All-from_recursion IsRule v.rules k.rules;
  asks = All-from_recursion IsAsk v.asks k.asks;
  last = last-ask n v (omega arith) k;
}
events-all n (e ∷ es) v few k = events-all (n + 1) es (clauses_event e v) (omega arith) (event-all n e v (omega arith) k)

pub makes-well_formed : MakesWellFormed
makes-well_formed asking events few = events-all 0 events (clauses_from asking) (omega arith) (record { reading = begun-keeps 0 asking [] refl tt; rules = tt; asks = tt })
