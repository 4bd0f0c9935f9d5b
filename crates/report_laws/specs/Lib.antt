pub mod PageClaims
