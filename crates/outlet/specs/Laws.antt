-- Proofs that the prover wants beside the definitions: that the record table keeps the law of outlets. Nobody has to read them.
pub mod Tables
