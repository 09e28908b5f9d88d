-- Proofs that the prover wants beside the definitions. Nobody has to read them.
pub mod Collected
