mod Growing
mod LoadedTrees
mod LoadedSteps
mod WrittenTerms
mod WrittenRows
mod WrittenGoals
mod AskParts
mod Beginning
