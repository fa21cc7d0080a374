pub mod CalledLemmas
