-- Proofs that the prover wants beside the definitions: that the card keeps the law of outlets. Nobody has to read them.
pub mod Held
