-- walks along steps
pub mod StepWalkLemmas
pub mod StepEnterLemmas
pub mod StepWorkLemmas
pub mod StepStackLemmas
pub mod StepOrderLemmas
