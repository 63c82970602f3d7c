mod ConstantLemmas
mod CoverLemmas
mod PilotLemmas
mod SuccessorLemmas
