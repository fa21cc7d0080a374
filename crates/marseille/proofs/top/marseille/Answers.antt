use Rattle.std.proofs.Common.{◌≡◌, ℕ, List, [], Option, None, subst, MatchOption}
use Rattle.mars_script.specs.Words.{texts_of}
use Rattle.mars_script.specs.declared.words.Options.{Options}
use Rattle.marseille.specs.declared.status.Status.TheVariants as status
use Rattle.marseille.specs.Ran.{NamesSessions, IsRunInThreads}
use Rattle.marseille.specs.Words.{AreRunAs, RunsNoThreads}
use Rattle.marseille.proofs.Told.{gets_with_order, gets_or_with_order, part_with_order}
use Rattle.marseille.proofs.Complete.{complete, without_fault}
use Rattle.marseille.proofs.OneOrder.{one_order}
use Rattle.marseille.proofs.top.marseille.Goals as goal

abbrev Takes : List (List ℕ) → Option Options → Type 0
Takes texts o = MatchOption o (RunsNoThreads texts) (λ options. AreRunAs texts options None)

pub returns-in-Ok-clause-complete : goal.returns-in-Ok-clause-complete
returns-in-Ok-clause-complete g c options order bytes input run holds says named no_read no_write =
    let texts = texts_of c.args.words.now in
    let taken = subst (Takes texts) c.in-Ok-Some.field-0-is c.in-Ok-Some.ensures in
    let same = one_order texts options c.in-Ok-Some.options order None run taken in
    let due = c.in-Ok.field-0 in
    without_fault c.say.result.status due.status
    (complete c.one_input.ensures.input c.one_input.ensures.either bytes input says IsRunInThreads c.in-Ok-Some.options None (g.S.Source.left c.args.source.now) (g.S.Source.left c.due_in_threads.new.source) due.history.items due.output.items due.status holds (subst (λ (o : Option (List ℕ)). NamesSessions o input) same named) c.in-Ok.ensures.due)
    c.say.ensures.one
    (λ fault. no_write (c.say.ensures.fault fault).0)

pub returns-in-Ok-None-clause-done : goal.returns-in-Ok-None-clause-done
returns-in-Ok-None-clause-done g c is =
    let texts = texts_of c.args.words.now in
    let none = subst (Takes texts) c.in-Ok-None.field-0-is c.in-Ok-None.ensures in
    gets_with_order texts (g.S.Source.left c.args.source.now) (g.S.Source.left c.marseille_alone.new.source) (g.K.Sink.got c.args.sink.now) (g.K.Sink.got c.marseille_alone.new.sink) c.marseille_alone.result.history.items status.Done none (c.marseille_alone.ensures.done is)

pub returns-in-Ok-None-clause-memory : goal.returns-in-Ok-None-clause-memory
returns-in-Ok-None-clause-memory g c is =
    let texts = texts_of c.args.words.now in
    let none = subst (Takes texts) c.in-Ok-None.field-0-is c.in-Ok-None.ensures in
    gets_or_with_order ((g.K.Sink.got c.marseille_alone.new.sink ≡ g.K.Sink.got c.args.sink.now) × (c.marseille_alone.result.history.items ≡ [])) texts (g.S.Source.left c.args.source.now) (g.S.Source.left c.marseille_alone.new.source) (g.K.Sink.got c.args.sink.now) (g.K.Sink.got c.marseille_alone.new.sink) c.marseille_alone.result.history.items status.Memory none (c.marseille_alone.ensures.memory is)

pub returns-in-Ok-None-clause-write : goal.returns-in-Ok-None-clause-write
returns-in-Ok-None-clause-write g c is =
    let texts = texts_of c.args.words.now in
    let none = subst (Takes texts) c.in-Ok-None.field-0-is c.in-Ok-None.ensures in
    let fails = c.marseille_alone.ensures.write is in
    (fails.0, part_with_order texts (g.S.Source.left c.args.source.now) (g.S.Source.left c.marseille_alone.new.source) (g.K.Sink.got c.args.sink.now) (g.K.Sink.got c.marseille_alone.new.sink) c.marseille_alone.result.history.items none fails.1)
