pub mod Fingerprints
