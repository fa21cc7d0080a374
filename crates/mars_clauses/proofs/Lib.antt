mod LastRow
mod PartFacts
mod VarFacts
mod WellFormedLemmas
