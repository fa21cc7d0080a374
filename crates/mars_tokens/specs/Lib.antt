-- Promised: what bytes, words, strings, pieces and token lists are. Not promised: the first piece by its first byte, which words may be words of the grammar.
pub mod Bytes
pub mod Words
pub mod Strings
pub mod Integers
pub mod Pieces
pub mod Refusals
pub mod Tokens
pub mod PiecesInside
pub mod WordsInside
