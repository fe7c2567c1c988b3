pub mod FitnessLaws
