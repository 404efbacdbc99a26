-- Laws of biometrics bodies and the rule table, by what they are about. The layers above the store cite what store_image's Laws repeats.
pub mod Updating
pub mod Table
pub mod Presence
pub mod ByKind
pub mod Determined
