pub mod ParsedTexts
pub mod WrittenTokens
