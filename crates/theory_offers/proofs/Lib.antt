pub mod KeptOffers
pub mod OffersEnd
pub mod OffersPlan
pub mod ProfileInstance
pub mod Profiled
pub mod Unbeaten
