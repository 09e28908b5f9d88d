-- Proofs that the prover wants beside the definitions: that the kinds keep the laws of their notation, and the words those of words. Nobody has to read them.
pub mod Notations
pub mod Words
