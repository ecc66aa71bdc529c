pub mod FeatureRules
pub mod FeatureLimited
pub mod FeatureLocal
pub mod FeatureAnswering
pub mod ReadFeatures
