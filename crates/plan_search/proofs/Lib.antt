pub mod BetweenLemmas
pub mod CertificateLemmas
pub mod FlowLemmas
pub mod OneText
pub mod PlanLemmas
pub mod SearchLemmas
pub mod TextLemmas
