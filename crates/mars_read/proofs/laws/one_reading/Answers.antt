use Rattle.mars_read.proofs.OneReading.{read-same, refusal-same}
use Rattle.mars_read.proofs.laws.one_reading.Goals as goal

pub returns-clause-value : goal.returns-clause-value
returns-clause-value g c = λ start v w x bytes is r s. read-same _ start _ v bytes c.one_list_of_tokens.ensures.most (λ tokens es fs p q. c.one_value.ensures start tokens es fs is p q) w x r s

pub returns-clause-refusal : goal.returns-clause-refusal
returns-clause-refusal g c = λ start v bytes over e f is ne nf r s.
    refusal-same _ start _ v bytes c.one_list_of_tokens.ensures.most over (λ tokens a b p q. c.one_refusal.ensures start v tokens a b is p q) e f ne nf r s
