-- Proofs that the prover wants beside the definitions: that chord and matching are lawful reductions, and what that needs. Nobody has to read them.
pub mod Reach
pub mod Reductions
