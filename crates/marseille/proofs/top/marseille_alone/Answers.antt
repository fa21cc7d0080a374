use Rattle.std.proofs.Common.{ℕ, List, Option, sym, subst, ◌∙◌, refl, codes}
use Rattle.mars_script.specs.Words.{texts_of}
use Rattle.mars_table.specs.declared.entry.Entry.{Entry}
use Rattle.marseille.specs.declared.status.Status.TheVariants as status
use Rattle.marseille.specs.Ran.{NamesSessions, IsRunAlone}
use Rattle.marseille.specs.Words.{AreTakenAs}
use Rattle.marseille.specs.Top.{IsDueAs}
use Rattle.marseille.specs.Top.RefusesWords.{refused, unbuilt}
use Rattle.marseille.proofs.Told.{gets_all, gets_part}
use Rattle.marseille.proofs.Complete.{complete, without_fault}
use Rattle.marseille.proofs.OneOrder.{one_order}
use Rattle.marseille.proofs.top.marseille_alone.Goals as goal

pub returns-in-Ok-clause-words : goal.returns-in-Ok-clause-words
returns-in-Ok-clause-words g c is =
    let texts = texts_of c.args.words.now in
    let options = c.in-Ok-Run.options in
    let order = c.in-Ok-Run.order in
    let old = g.S.Source.left c.args.source.now in
    let new = g.S.Source.left c.due_alone.new.source in
    let due = c.in-Ok.field-0 in
    let run = subst (AreTakenAs texts) c.in-Ok-Run.field-0-is c.in-Ok-Run.ensures in
    let written = subst (λ (l : List ℕ). IsDueAs IsRunAlone options order old new due.history.items l due.status) (sym c.deref.ensures.value) c.in-Ok.ensures.due in
    let kept = subst (λ (l : List Entry). IsDueAs IsRunAlone options order old new l c.deref.result.now due.status) (sym c.say.ensures.history) written in
    gets_all IsRunAlone texts options order run old new (g.K.Sink.got c.args.sink.now) (g.K.Sink.got c.say.new.sink) c.say.result.history.items c.deref.result.now due.status kept c.say.result.status c.say.ensures.all status.Words (λ w. cc w) is

pub returns-in-Ok-clause-write : goal.returns-in-Ok-clause-write
returns-in-Ok-clause-write g c is =
    let texts = texts_of c.args.words.now in
    let options = c.in-Ok-Run.options in
    let order = c.in-Ok-Run.order in
    let old = g.S.Source.left c.args.source.now in
    let new = g.S.Source.left c.due_alone.new.source in
    let due = c.in-Ok.field-0 in
    let run = subst (AreTakenAs texts) c.in-Ok-Run.field-0-is c.in-Ok-Run.ensures in
    let written = subst (λ (l : List ℕ). IsDueAs IsRunAlone options order old new due.history.items l due.status) (sym c.deref.ensures.value) c.in-Ok.ensures.due in
    let kept = subst (λ (l : List Entry). IsDueAs IsRunAlone options order old new l c.deref.result.now due.status) (sym c.say.ensures.history) written in
    let fails = c.say.ensures.fault is in
    (fails.0, gets_part IsRunAlone texts options order run old new (g.K.Sink.got c.args.sink.now) (g.K.Sink.got c.say.new.sink) c.say.result.history.items c.deref.result.now due.status kept fails.1)

pub returns-in-Ok-clause-complete : goal.returns-in-Ok-clause-complete
returns-in-Ok-clause-complete g c options order bytes input run holds says named no_read no_write =
    let texts = texts_of c.args.words.now in
    let taken = subst (AreTakenAs texts) c.in-Ok-Run.field-0-is c.in-Ok-Run.ensures in
    let same = one_order texts options c.in-Ok-Run.options order c.in-Ok-Run.order run taken in
    let due = c.in-Ok.field-0 in
    without_fault c.say.result.status due.status
    (complete c.one_input.ensures.input c.one_input.ensures.either bytes input says IsRunAlone c.in-Ok-Run.options c.in-Ok-Run.order (g.S.Source.left c.args.source.now) (g.S.Source.left c.due_alone.new.source) due.history.items due.output.items due.status holds (subst (λ (o : Option (List ℕ)). NamesSessions o input) same named) c.in-Ok.ensures.due)
    c.say.ensures.one
    (λ fault. no_write (c.say.ensures.fault fault).0)

pub returns-in-Ok-Unbuilt-clause-write : goal.returns-in-Ok-Unbuilt-clause-write
returns-in-Ok-Unbuilt-clause-write g c is =
    let fails = c.say-in-Ok-Unbuilt.ensures.fault is in
    let taken = subst (AreTakenAs (texts_of c.args.words.now)) c.in-Ok-Unbuilt.field-0-is c.in-Ok-Unbuilt.ensures in
    (fails.0, record { output = codes "words unbuilt\n"; is = (status.Words, unbuilt taken refl (c.say-in-Ok-Unbuilt.ensures.history ∙ c.new.ensures.items)); part = fails.1 })

pub returns-in-Ok-Refused-clause-write : goal.returns-in-Ok-Refused-clause-write
returns-in-Ok-Refused-clause-write g c is =
    let fails = c.say-in-Ok-Refused.ensures.fault is in
    let taken = subst (AreTakenAs (texts_of c.args.words.now)) c.in-Ok-Refused.field-0-is c.in-Ok-Refused.ensures in
    (fails.0, record { output = codes "words refused\n"; is = (status.Words, refused taken refl (c.say-in-Ok-Refused.ensures.history ∙ c.new-in-Ok-Refused.ensures.items)); part = fails.1 })
