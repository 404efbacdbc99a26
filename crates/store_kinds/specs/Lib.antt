-- The bodies of biometrics files, the rule table, and what a section's body must be by its kind.
pub mod Biometrics
pub mod Rules
