-- Proofs that the prover wants beside the definitions: that the kinds keep their laws, and what that needs. Nobody has to read them.
pub mod Octets
pub mod Points
pub mod Kinds
