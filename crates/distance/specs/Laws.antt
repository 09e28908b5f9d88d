-- Proofs that the prover wants beside the definitions: that the kinds are lawfully measured, and what that needs. Nobody has to read them.
pub mod Ring
pub mod Bounds
pub mod Flows
pub mod Boxes
